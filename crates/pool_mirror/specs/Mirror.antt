-- The mirrored pool of strips: what each master does by the rules of chapter 7, and the world of both with the link between them.
use Rattle.std.specs.Prelude.{ℕ, zero, suc, List, [], ◌∷◌, ◌++◌, Bool, true, false, not, cond, ◌&&◌, ◌||◌, length, leb, ltb, eqb}
use Rattle.refusal.specs.declared.Refusal.{Refusal}
use Rattle.refusal.specs.Answer.{first, passes}

-- rule 7.7: where strip and sequence numbers end
abbrev pub most : ℕ
most = 4294967295

-- ---- a pool: how many strips were ever added and ever taken, and those held with their numbers, the lowest first
abbrev pub Strips : Type 0
Strips = List (ℕ × List ℕ)

pub record Pool : Type 0 where
  pub added : ℕ
  pub taken : ℕ
  pub held : Strips

abbrev pub lowest : Strips → ℕ × List ℕ
lowest [] = (0, [])
lowest (x ∷ l) = x

abbrev pub rest : Strips → Strips
rest [] = []
rest (x ∷ l) = l

-- rule 7.1: the next number is the strip's
unfoldable pub put : List ℕ → Pool → Pool
put s p = record { added = suc p.added; taken = p.taken; held = p.held ++ ((suc p.added, s) ∷ []) }

-- and the lowest is taken
unfoldable pub less : Pool → Pool
less p = record { added = p.added; taken = suc p.taken; held = rest p.held }

-- ---- what a call says, and the refusals it may give, in their order, each with whether it applies
pub data Said : Type 0 where
  done : Said
  handed : ℕ × List ℕ → Said
  acknowledged : ℕ → Said
  refused : Refusal → Said

abbrev pub Checks : Type 0
Checks = List (ℕ × Bool)

unfoldable pub unless : {S : Type 0} → Checks → S → Said × S → Said × S
unless checks state new = first checks (λ r. (refused r, state)) new

-- rule 7.7: 14, no room is free or strip numbers are used up
unfoldable pub no_room : Pool → Bool
no_room p = leb 64 (length p.held) || leb most p.added

-- 15: none is held
abbrev pub none_held : Strips → Bool
none_held [] = true
none_held (x ∷ l) = false

-- ---- the active master, with one message outstanding at a time: rule 7.2
pub data Out : Type 0 where
  nothing : Out
  adding : ℕ × List ℕ → Out
  taking : ℕ × List ℕ → Out

pub record Active : Type 0 where
  pub pool : Pool
  pub sent : ℕ
  pub out : Out

abbrev pub waiting : Out → Bool
waiting nothing = false
waiting (adding x) = true
waiting (taking x) = true

-- rule 7.9: 23 and 24 before all else; own are the strip's own
unfoldable pub add : (List ℕ → Checks) → List ℕ → Active → Said × Active
add own s a =
    unless ((23, waiting a.out) ∷ (24, leb most a.sent) ∷ own s ++ ((14, no_room a.pool) ∷ [])) a
    (done, record { pool = put s a.pool; sent = suc a.sent; out = adding (suc a.pool.added, s) })

-- a taking counts from its sending, though the strip is not handed out yet
unfoldable pub take : Active → Said × Active
take a =
    unless ((23, waiting a.out) ∷ (24, leb most a.sent) ∷ (15, none_held a.pool.held) ∷ []) a
    (done, record { pool = less a.pool; sent = suc a.sent; out = taking (lowest a.pool.held) })

-- rule 7.3: the acknowledgement of a taking hands the strip out
abbrev pub settled : Out → Said
settled nothing = done
settled (adding x) = done
settled (taking x) = handed x

-- rule 7.2: another number changes nothing
unfoldable pub acknowledge : ℕ → Active → Said × Active
acknowledge k a = cond (eqb k a.sent) (settled a.out, record { pool = a.pool; sent = a.sent; out = nothing }) (done, a)

-- ---- messages: a sequence number, a strip's number, and the strip where it is added
pub data Message : Type 0 where
  adds : ℕ → ℕ → List ℕ → Message
  takes : ℕ → ℕ → Message

abbrev pub sequence : Message → ℕ
sequence (adds k n s) = k
sequence (takes k n) = k

abbrev pub message_of : ℕ → Out → List Message
message_of k nothing = []
message_of k (adding (n, s)) = adds k n s ∷ []
message_of k (taking (n, s)) = takes k n ∷ []

unfoldable pub outstanding : Active → List Message
outstanding a = message_of a.sent a.out

-- ---- the standby
pub record Standby : Type 0 where
  pub pool : Pool
  pub applied : ℕ
  pub alone : Bool

abbrev pub lowest_is : ℕ → Strips → Bool
lowest_is n [] = false
lowest_is n (x ∷ l) = eqb n x.0

-- rule 7.8: what a message adds must be of good form, find room and have the next number; what it takes must be the lowest held
unfoldable pub fits : (List ℕ → Checks) → Pool → Message → Bool
fits own p (adds k n s) = passes (own s) && (not (leb 64 (length p.held)) && eqb n (suc p.added))
fits own p (takes k n) = lowest_is n p.held

unfoldable pub apply_to : Message → Pool → Pool
apply_to (adds k n s) p = put s p
apply_to (takes k n) p = less p

-- 16: it goes on alone, or the message is beyond the next, or is the next and does not fit
unfoldable pub not_applied : (List ℕ → Checks) → Message → Standby → Bool
not_applied own m b =
    b.alone || (ltb (suc b.applied) (sequence m) || (eqb (sequence m) (suc b.applied) && not (fits own b.pool m)))

-- rule 7.4: a message that was applied before changes nothing and is acknowledged again
unfoldable pub receive : (List ℕ → Checks) → Message → Standby → Said × Standby
receive own m b =
    unless ((16, not_applied own m b) ∷ []) b
    (acknowledged (sequence m), cond (leb (sequence m) b.applied) b (record { pool = apply_to m b.pool; applied = sequence m; alone = b.alone }))

unfoldable pub go_alone : Standby → Standby
go_alone b = record { pool = b.pool; applied = b.applied; alone = true }

-- rule 7.5: alone it hands out at once and sends nothing, so that 23 and 24 fall away
unfoldable pub add_alone : (List ℕ → Checks) → List ℕ → Pool → Said × Pool
add_alone own s p = unless (own s ++ ((14, no_room p) ∷ [])) p (done, put s p)

unfoldable pub take_alone : Pool → Said × Pool
take_alone p = unless ((15, none_held p.held) ∷ []) p (handed (lowest p.held), less p)

-- ---- the rules of a pair, with the strip's own checks; and those of chapter 7
pub record Rules : Type 0 where
  pub own : List ℕ → Checks
  pub on_add : List ℕ → Active → Said × Active
  pub on_take : Active → Said × Active
  pub on_acknowledgement : ℕ → Active → Said × Active
  pub on_message : Message → Standby → Said × Standby
  pub on_add_alone : List ℕ → Pool → Said × Pool
  pub on_take_alone : Pool → Said × Pool

unfoldable pub paper : (List ℕ → Checks) → Rules
paper own = record {
  own = own;
  on_add = add own;
  on_take = take;
  on_acknowledgement = acknowledge;
  on_message = receive own;
  on_add_alone = add_alone own;
  on_take_alone = take_alone;
}

-- ---- the world. The link and its way back keep all that was ever sent: lost is what never arrives, and any of it may arrive again, late, in any order.
-- entered are the strips ever added, by the active and by a standby alone; given and offered those handed out by the one and the other; all the latest first.
pub record World : Type 0 where
  pub active : Active
  pub standby : Standby
  pub link : List Message
  pub back : List ℕ
  pub entered : Strips
  pub entered_alone : Strips
  pub given : Strips
  pub offered : Strips

-- cuts: the standby is told to go on alone. The active may be dead, and then it does nothing more; or it is wrongly taken for dead and goes on.
pub data Event : Type 0 where
  adds_strip : List ℕ → Event
  takes_strip : Event
  sends : Event
  arrives : ℕ → Event
  answered : ℕ → Event
  cuts : Event
  adds_alone : List ℕ → Event
  takes_alone : Event

-- the k-th of a list, if there is one
abbrev pub at : {A : Type 0} → ℕ → List A → List A
at k [] = []
at zero (x ∷ l) = x ∷ []
at (suc k) (x ∷ l) = at k l

abbrev pub note_handed : Said → Strips → Strips
note_handed done l = l
note_handed (handed x) l = x ∷ l
note_handed (acknowledged k) l = l
note_handed (refused r) l = l

abbrev pub note_added : Said → ℕ × List ℕ → Strips → Strips
note_added done x l = x ∷ l
note_added (handed y) x l = l
note_added (acknowledged k) x l = l
note_added (refused r) x l = l

abbrev pub note_acknowledged : Said → List ℕ → List ℕ
note_acknowledged done l = l
note_acknowledged (handed x) l = l
note_acknowledged (acknowledged k) l = k ∷ l
note_acknowledged (refused r) l = l

-- what an event of the active, of the standby and of a standby alone makes of the world
unfoldable pub with_active : World → Said × Active → World
with_active w (said, a) = record { active = a; standby = w.standby; link = w.link; back = w.back; entered = w.entered; entered_alone = w.entered_alone; given = note_handed said w.given; offered = w.offered }

unfoldable pub with_added : World → List ℕ → Said × Active → World
with_added w s (said, a) = record { active = a; standby = w.standby; link = w.link; back = w.back; entered = note_added said (suc w.active.pool.added, s) w.entered; entered_alone = w.entered_alone; given = w.given; offered = w.offered }

unfoldable pub with_sent : World → List Message → World
with_sent w m = record { active = w.active; standby = w.standby; link = m ++ w.link; back = w.back; entered = w.entered; entered_alone = w.entered_alone; given = w.given; offered = w.offered }

unfoldable pub with_standby : World → Said × Standby → World
with_standby w (said, b) = record { active = w.active; standby = b; link = w.link; back = note_acknowledged said w.back; entered = w.entered; entered_alone = w.entered_alone; given = w.given; offered = w.offered }

unfoldable pub with_alone : World → Strips → Said × Pool → World
with_alone w l (said, p) = record { active = w.active; standby = record { pool = p; applied = w.standby.applied; alone = w.standby.alone }; link = w.link; back = w.back; entered = w.entered; entered_alone = l; given = w.given; offered = note_handed said w.offered }

unfoldable pub arrived : Rules → World → List Message → World
arrived rules w [] = w
arrived rules w (m ∷ l) = with_standby w (rules.on_message m w.standby)

unfoldable pub came : Rules → World → List ℕ → World
came rules w [] = w
came rules w (k ∷ l) = with_active w (rules.on_acknowledgement k w.active)

unfoldable pub added_alone : World → List ℕ → Said × Pool → World
added_alone w s new = with_alone w (note_added new.0 (suc w.standby.pool.added, s) w.entered_alone) new

unfoldable pub step : Rules → World → Event → World
step rules w (adds_strip s) = with_added w s (rules.on_add s w.active)
step rules w takes_strip = with_active w (rules.on_take w.active)
step rules w sends = with_sent w (outstanding w.active)
step rules w (arrives k) = arrived rules w (at k w.link)
step rules w (answered k) = came rules w (at k w.back)
step rules w cuts = with_standby w (done, go_alone w.standby)
step rules w (adds_alone s) = cond w.standby.alone (added_alone w s (rules.on_add_alone s w.standby.pool)) w
step rules w takes_alone = cond w.standby.alone (with_alone w w.entered_alone (rules.on_take_alone w.standby.pool)) w

unfoldable pub empty : Pool
empty = record { added = 0; taken = 0; held = [] }

unfoldable pub start : World
start = record { active = record { pool = empty; sent = 0; out = nothing }; standby = record { pool = empty; applied = 0; alone = false }; link = []; back = []; entered = []; entered_alone = []; given = []; offered = [] }

-- the world after any list of events, the last one first
unfoldable pub after : Rules → List Event → World
after rules [] = start
after rules (e ∷ es) = step rules (after rules es) e
