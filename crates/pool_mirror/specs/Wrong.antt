-- Six pairs that each break one rule, and a run of each after which the safety theorem fails; the same runs with all rules kept. Proved in proofs/Wrong.antt.
use Rattle.std.specs.Prelude.{ℕ, ◌≡◌, List, [], ◌∷◌, cond, leb, eqb}
use Rattle.refusal.specs.Refusal.{refusal}
use Rattle.pool_mirror.specs.Mirror.{Strips, Pool, Checks, Said, done, handed, acknowledged, refused, unless, Out, nothing, adding, taking, Active, add, take, settled, acknowledge, Message, adds, takes, sequence, Standby, apply_to, not_applied, receive, add_alone, take_alone, Rules, paper, Event, adds_strip, takes_strip, sends, arrives, answered, cuts, takes_alone, after}
use Rattle.pool_mirror.specs.Claims.{Safe}

-- every strip is of good form
abbrev pub good : List ℕ → Checks
good s = []

-- all rules kept but for what is done at a taking, at an acknowledgement and at a message
unfoldable pub but : (Active → Said × Active) → (ℕ → Active → Said × Active) → (Message → Standby → Said × Standby) → Rules
but on_take on_acknowledgement on_message = record {
  own = good;
  on_add = add good;
  on_take = on_take;
  on_acknowledgement = on_acknowledgement;
  on_message = on_message;
  on_add_alone = add_alone good;
  on_take_alone = take_alone;
}

-- ---- the wrong pairs
-- the standby copies entries and not erasures: it acknowledges and counts a taking, and its pool stays as it was
abbrev pub with_pool : Pool → Said × Standby → Said × Standby
with_pool p (said, b) = (said, record { pool = p; applied = b.applied; alone = b.alone })

unfoldable pub forgets : Message → Standby → Said × Standby
forgets (adds k n s) b = receive good (adds k n s) b
forgets (takes k n) b = with_pool b.pool (receive good (takes k n) b)

unfoldable pub forgetful : Rules
forgetful = but take acknowledge forgets

-- the standby refuses every message, so that the active waits for ever
unfoldable pub deaf : Rules
deaf = but take acknowledge (λ m b. (refused (refusal 16), b))

-- the active hands a strip out when it is taken, before the acknowledgement
abbrev pub at_once : Said × Active → Said × Active
at_once (done, a) = (settled a.out, a)
at_once (handed x, a) = (handed x, a)
at_once (acknowledged k, a) = (acknowledged k, a)
at_once (refused r, a) = (refused r, a)

unfoldable pub hasty : Rules
hasty = but (λ a. at_once (take a)) acknowledge (receive good)

-- the active takes an acknowledgement of any number for that of its number
unfoldable pub credulous : Rules
credulous = but take (λ k a. acknowledge a.sent a) (receive good)

-- the standby applies an old message again
unfoldable pub repeats : Message → Standby → Said × Standby
repeats m b =
    unless ((16, not_applied good m b) ∷ []) b
    (acknowledged (sequence m), record { pool = apply_to m b.pool; applied = cond (leb (sequence m) b.applied) b.applied (sequence m); alone = b.alone })

unfoldable pub repeating : Rules
repeating = but take acknowledge repeats

-- the active goes on waiting when an addition was acknowledged
abbrev pub still_adding : Active → Out → Said × Active
still_adding a nothing = acknowledge a.sent a
still_adding a (adding x) = (done, a)
still_adding a (taking x) = acknowledge a.sent a

unfoldable pub unsettled : Rules
unsettled = but take (λ k a. cond (eqb k a.sent) (still_adding a a.out) (done, a)) (receive good)

-- ---- the runs, the last event first
abbrev pub strip : List ℕ
strip = 7 ∷ []

-- a strip is added and acknowledged
abbrev pub entry : List Event
entry = answered 0 ∷ arrives 0 ∷ sends ∷ adds_strip strip ∷ []

-- it is taken and acknowledged, and then the standby goes on alone
abbrev pub accident : List Event
accident = takes_alone ∷ cuts ∷ answered 0 ∷ arrives 0 ∷ sends ∷ takes_strip ∷ entry

-- the power is cut at a taking, before its message is sent
abbrev pub cut_at_taking : List Event
cut_at_taking = takes_alone ∷ cuts ∷ takes_strip ∷ entry

-- the same, and the acknowledgement of the addition comes once more
abbrev pub late_answer : List Event
late_answer = takes_alone ∷ cuts ∷ answered 0 ∷ takes_strip ∷ entry

-- the accident's run, and the message of the addition comes once more
abbrev pub late_message : List Event
late_message = takes_alone ∷ cuts ∷ answered 0 ∷ arrives 0 ∷ sends ∷ takes_strip ∷ arrives 0 ∷ entry

-- a strip is added, and its message is under way
abbrev pub under_way : List Event
under_way = sends ∷ adds_strip strip ∷ []

-- ---- the claims
abbrev pub Unsafe : Rules → List Event → Type 0
Unsafe rules es = Safe rules (after rules es) → ⊥

-- what the active and what the standby has handed out after a run
abbrev pub HandedOut : Rules → List Event → Strips → Strips → Type 0
HandedOut rules es given offered = ((after rules es).given ≡ given) × ((after rules es).offered ≡ offered)

-- one strip under one number, handed out by both
abbrev pub ByBoth : Rules → List Event → Type 0
ByBoth rules es = HandedOut rules es ((1, strip) ∷ []) ((1, strip) ∷ []) × Unsafe rules es

abbrev pub Forgetful : Type 0
Forgetful = ByBoth forgetful accident

abbrev pub Hasty : Type 0
Hasty = ByBoth hasty cut_at_taking

abbrev pub Credulous : Type 0
Credulous = ByBoth credulous late_answer

-- the strip was added once, as number 1, and is handed out by both, as 1 and as 2
abbrev pub Repeating : Type 0
Repeating =
    HandedOut repeating late_message ((1, strip) ∷ []) ((2, strip) ∷ []) × ((after repeating late_message).entered ≡ (1, strip) ∷ []) × Unsafe repeating late_message

-- what the standby says to the message that is under way
abbrev pub Answered : Rules → Said → Type 0
Answered rules said =
    ((after rules under_way).link ≡ adds 1 1 strip ∷ []) × ((rules.on_message (adds 1 1 strip) (after rules under_way).standby).0 ≡ said)

abbrev pub Deaf : Type 0
Deaf = Answered deaf (refused (refusal 16)) × Unsafe deaf under_way

-- what is outstanding once the addition is acknowledged
abbrev pub Left : Rules → Out → Type 0
Left rules out = (after rules entry).active.out ≡ out

abbrev pub Unsettled : Type 0
Unsettled = Left unsettled (adding (1, strip)) × Unsafe unsettled entry

-- with all rules kept each of these runs hands the strip out at most once, the message is acknowledged, and nothing is left outstanding
pub record Right : Type 0 where
  pub only_the_rule : but take acknowledge (receive good) ≡ paper good
  pub forgetful_run : HandedOut (paper good) accident ((1, strip) ∷ []) []
  pub hasty_run : HandedOut (paper good) cut_at_taking [] ((1, strip) ∷ [])
  pub credulous_run : HandedOut (paper good) late_answer [] ((1, strip) ∷ [])
  pub repeating_run : HandedOut (paper good) late_message ((1, strip) ∷ []) []
  pub deaf_run : Answered (paper good) (acknowledged 1)
  pub unsettled_run : Left (paper good) nothing
