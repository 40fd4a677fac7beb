-- Two cabinets, each with a master whose host makes the calls of a pool; a run of both with bytes on the link between them; and what such a run stands for in the mirrored system.
use Rattle.std.specs.Prelude.{ℕ, zero, suc, ◌+◌, ◌-◌, List, [], ◌∷◌, ◌++◌, cond, length, take, drop, replicate, eqb, Option, Some, None, Ok, Err}
use Rattle.refusal.specs.Answer.{Answer}
use Rattle.strip.specs.Strip.{length_field}
use Rattle.pool_numbers.specs.Numbers.{number_at}
use Rattle.pool_message.specs.Message.{read_of}
use Rattle.pool_message.specs.declared.Message.{Message}
use Rattle.pool_message.specs.declared.Message.TheVariants.{Adds, Takes, Acknowledges}
use Rattle.pool_mirror.specs.Mirror as mirror
use Rattle.pool_mirror.specs.Mirror.{Strips, Said, Event, adds_strip, takes_strip, sends, arrives, answered, cuts, adds_alone, takes_alone, at}
use Rattle.pool_state.specs.declared.State.{State}
use Rattle.pool_state.specs.State as roles
use Rattle.pool_state.specs.State.{state_in, sent}
use Rattle.pool_rooms.specs.Rooms.{rooms_size, room_at, strip_in}
use Rattle.pool_sending.specs.Outstanding.{outstanding_of}
use Rattle.pool_standby.specs.Calls.{apply_of, go_alone_of}
use Rattle.pool_adding.specs.Adding.{add_of}
use Rattle.pool_taking.specs.Taking.{take_of, acknowledge_of}

-- what the host of a master keeps for it, as bytes
pub record Cabinet : Type 0 where
  pub state : List ℕ
  pub rooms : List ℕ

-- ---- the calls, on fresh buffers of the right length: what the host is told, and what it keeps from then on
-- the refusal, or what a call that is done says
abbrev pub told : Answer (Unit {0}) → Said → Said
told (Ok x) new = new
told (Err r) new = mirror.refused r

-- a strip was handed out where the number beside it is not 0
unfoldable pub handed_in : List ℕ → List ℕ → Said
handed_in number strip = cond (eqb (number_at number 0) 0) mirror.done (mirror.handed (number_at number 0, strip_in strip))

abbrev pub acknowledged_in : Option Message → Said
acknowledged_in (Some (Adds k n)) = mirror.done
acknowledged_in (Some (Takes k n)) = mirror.done
acknowledged_in (Some (Acknowledges k)) = mirror.acknowledged k
acknowledged_in None = mirror.done

unfoldable pub after_add : Answer (Unit {0}) × (List ℕ × List ℕ) → Said × Cabinet
after_add (said, (state, rooms)) = (told said mirror.done, record { state = state; rooms = rooms })

unfoldable pub after_handing : Answer (Unit {0}) × (List ℕ × (List ℕ × (List ℕ × List ℕ))) → Said × Cabinet
after_handing (said, (state, (rooms, (number, strip)))) = (told said (handed_in number strip), record { state = state; rooms = rooms })

-- at the standby what is said is the acknowledgement, which is sent back
unfoldable pub after_apply : Answer (Unit {0}) × (List ℕ × (List ℕ × List ℕ)) → Said × Cabinet
after_apply (said, (state, (rooms, acknowledgement))) = (told said (acknowledged_in (read_of acknowledgement)), record { state = state; rooms = rooms })

unfoldable pub after_alone : Cabinet → Answer (Unit {0}) × List ℕ → Said × Cabinet
after_alone c (said, state) = (told said mirror.done, record { state = state; rooms = c.rooms })

unfoldable pub add : List ℕ → Cabinet → Said × Cabinet
add s c = after_add (add_of c.state c.rooms s)

unfoldable pub take_out : Cabinet → Said × Cabinet
take_out c = after_handing (take_of c.state c.rooms (replicate 4 0) (replicate 676 0))

unfoldable pub acknowledge : List ℕ → Cabinet → Said × Cabinet
acknowledge bytes c = after_handing (acknowledge_of c.state c.rooms bytes (replicate 4 0) (replicate 676 0))

unfoldable pub go_alone : Cabinet → Said × Cabinet
go_alone c = after_alone c (go_alone_of c.state)

abbrev pub apply_at : List ℕ → Cabinet → Answer (Unit {0}) × (List ℕ × (List ℕ × List ℕ))
apply_at bytes c = apply_of c.state c.rooms bytes (replicate 8 0)

unfoldable pub apply : List ℕ → Cabinet → Said × Cabinet
apply bytes c = after_apply (apply_at bytes c)

-- the bytes that are sent: as many as the length field of what was written says, and none where it is 0
unfoldable pub sent_in : List ℕ → List (List ℕ)
sent_in out = cond (eqb (length_field out) 0) [] (take (length_field out + 2) out ∷ [])

unfoldable pub outstanding : Cabinet → List (List ℕ)
outstanding c = sent_in (outstanding_of c.state c.rooms (replicate 688 0)).1

-- the bytes that are sent back: the acknowledgement of a call that is done
unfoldable pub sent_back : Answer (Unit {0}) × (List ℕ × (List ℕ × List ℕ)) → List (List ℕ)
sent_back (Ok x, (state, (rooms, acknowledgement))) = acknowledgement ∷ []
sent_back (Err r, (state, (rooms, acknowledgement))) = []

-- ---- both cabinets, every message and every acknowledgement ever sent, and what the hosts have seen: strips added with the numbers that they got, and strips handed out; all the latest first
pub record Cabinets : Type 0 where
  pub active : Cabinet
  pub standby : Cabinet
  pub link : List (List ℕ)
  pub back : List (List ℕ)
  pub entered : Strips
  pub entered_alone : Strips
  pub given : Strips
  pub offered : Strips

-- rule 7.1: the number that the next strip gets
unfoldable pub next_number : Cabinet → ℕ
next_number c = suc (state_in c.state).added

unfoldable pub with_active : Cabinets → Said × Cabinet → Cabinets
with_active c (said, new) = record { active = new; standby = c.standby; link = c.link; back = c.back; entered = c.entered; entered_alone = c.entered_alone; given = mirror.note_handed said c.given; offered = c.offered }

unfoldable pub with_added : Cabinets → List ℕ → Said × Cabinet → Cabinets
with_added c s (said, new) = record { active = new; standby = c.standby; link = c.link; back = c.back; entered = mirror.note_added said (next_number c.active, s) c.entered; entered_alone = c.entered_alone; given = c.given; offered = c.offered }

unfoldable pub with_sent : Cabinets → List (List ℕ) → Cabinets
with_sent c bytes = record { active = c.active; standby = c.standby; link = bytes ++ c.link; back = c.back; entered = c.entered; entered_alone = c.entered_alone; given = c.given; offered = c.offered }

unfoldable pub with_standby : Cabinets → List (List ℕ) → Said × Cabinet → Cabinets
with_standby c bytes (said, new) = record { active = c.active; standby = new; link = c.link; back = bytes ++ c.back; entered = c.entered; entered_alone = c.entered_alone; given = c.given; offered = c.offered }

unfoldable pub with_added_alone : Cabinets → List ℕ → Said × Cabinet → Cabinets
with_added_alone c s (said, new) = record { active = c.active; standby = new; link = c.link; back = c.back; entered = c.entered; entered_alone = mirror.note_added said (next_number c.standby, s) c.entered_alone; given = c.given; offered = c.offered }

unfoldable pub with_taken_alone : Cabinets → Said × Cabinet → Cabinets
with_taken_alone c (said, new) = record { active = c.active; standby = new; link = c.link; back = c.back; entered = c.entered; entered_alone = c.entered_alone; given = c.given; offered = mirror.note_handed said c.offered }

unfoldable pub arrived : Cabinets → List (List ℕ) → Cabinets
arrived c [] = c
arrived c (bytes ∷ l) = with_standby c (sent_back (apply_at bytes c.standby)) (apply bytes c.standby)

unfoldable pub came : Cabinets → List (List ℕ) → Cabinets
came c [] = c
came c (bytes ∷ l) = with_active c (acknowledge bytes c.active)

-- adding and taking are asked of any standby: one that is not alone refuses
unfoldable pub ran_step : Cabinets → Event → Cabinets
ran_step c (adds_strip s) = with_added c s (add s c.active)
ran_step c takes_strip = with_active c (take_out c.active)
ran_step c sends = with_sent c (outstanding c.active)
ran_step c (arrives k) = arrived c (at k c.link)
ran_step c (answered k) = came c (at k c.back)
ran_step c cuts = with_standby c [] (go_alone c.standby)
ran_step c (adds_alone s) = with_added_alone c s (add s c.standby)
ran_step c takes_alone = with_taken_alone c (take_out c.standby)

-- an active master and a standby, both with nothing added or taken and all rooms zero
unfoldable pub bare : ℕ → Cabinet
bare role = record { state = role ∷ replicate 8 0; rooms = replicate rooms_size 0 }

unfoldable pub begin : Cabinets
begin = record { active = bare roles.active; standby = bare roles.standby; link = []; back = []; entered = []; entered_alone = []; given = []; offered = [] }

-- the cabinets after any list of events, the last one first
unfoldable pub ran : List Event → Cabinets
ran [] = begin
ran (e ∷ es) = ran_step (ran es) e

-- ---- what the bytes stand for
-- so many strips after the first n: strip n + 1 is the one that has n before it
unfoldable pub held_in : List ℕ → ℕ → ℕ → Strips
held_in rooms n zero = []
held_in rooms n (suc count) = (suc n, strip_in (room_at rooms n)) ∷ held_in rooms (suc n) count

unfoldable pub pool_in : State → List ℕ → mirror.Pool
pool_in m rooms = record { added = m.added; taken = m.taken; held = held_in rooms m.taken (m.added - m.taken) }

unfoldable pub out_in : State → List ℕ → mirror.Out
out_in m rooms =
    cond (eqb m.role roles.adding) (mirror.adding (m.added, strip_in (room_at rooms (m.added - 1))))
    (cond (eqb m.role roles.taking) (mirror.taking (m.taken, strip_in (room_at rooms (m.taken - 1)))) mirror.nothing)

unfoldable pub active_in : State → List ℕ → mirror.Active
active_in m rooms = record { pool = pool_in m rooms; sent = sent m; out = out_in m rooms }

-- A message applied is one strip added or taken. Alone it adds and takes by itself, without messages, and the host has seen each of those; so what it has applied is all that it added and took less these. No byte of the state, and no note of the host, is needed to say when it went on alone; nor do the calls need it, since from then on every message is refused.
unfoldable pub standby_in : State → List ℕ → ℕ → mirror.Standby
standby_in m rooms by_itself = record { pool = pool_in m rooms; applied = sent m - by_itself; alone = eqb m.role roles.alone }

-- bytes that are no message stand for none
abbrev pub message_in : Option Message → List ℕ → List mirror.Message
message_in (Some (Adds k n)) s = mirror.adds k n s ∷ []
message_in (Some (Takes k n)) s = mirror.takes k n ∷ []
message_in (Some (Acknowledges k)) s = []
message_in None s = []

abbrev pub number_in : Option Message → List ℕ
number_in (Some (Adds k n)) = []
number_in (Some (Takes k n)) = []
number_in (Some (Acknowledges k)) = k ∷ []
number_in None = []

unfoldable pub messages_in : List (List ℕ) → List mirror.Message
messages_in [] = []
messages_in (bytes ∷ l) = message_in (read_of bytes) (drop 12 bytes) ++ messages_in l

unfoldable pub numbers_in : List (List ℕ) → List ℕ
numbers_in [] = []
numbers_in (bytes ∷ l) = number_in (read_of bytes) ++ numbers_in l

unfoldable pub stands_for : Cabinets → mirror.World
stands_for c = record {
  active = active_in (state_in c.active.state) c.active.rooms;
  standby = standby_in (state_in c.standby.state) c.standby.rooms (length c.entered_alone + length c.offered);
  link = messages_in c.link;
  back = numbers_in c.back;
  entered = c.entered;
  entered_alone = c.entered_alone;
  given = c.given;
  offered = c.offered;
}
