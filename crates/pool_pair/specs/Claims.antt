-- What is claimed of every run of the two cabinets: it is a run of the mirrored system, and so safe. Proved in proofs/Claims.antt.
use Rattle.std.specs.Prelude.{ℕ, ◌+◌, ◌≤◌, ◌<◌, ◌≡◌, List, [], ◌∷◌, true, false, drop, replicate}
use Rattle.refusal.specs.Refusal.{refusal}
use Rattle.strip.specs.Strip.{own_checks}
use Rattle.pool_message.specs.Message.{acknowledgement, read_of}
use Rattle.pool_mirror.specs.Mirror as mirror
use Rattle.pool_mirror.specs.Mirror.{most, Said, Rules, paper, World, Event, after, sequence}
use Rattle.pool_mirror.specs.Claims.{All, Safe}
use Rattle.pool_state.specs.State.{state_in, gone, no_state}
use Rattle.pool_rooms.specs.Rooms.{room_at}
use Rattle.pool_pair.specs.Pair.{Cabinet, Cabinets, add, take_out, acknowledge, apply, go_alone, outstanding, ran, message_in, number_in, messages_in, stands_for}

-- the rules of a pair, with a strip's own checks
abbrev pub rules : Rules
rules = paper own_checks

-- a whole run of the calls, with bytes on the link, is a run of the system
abbrev pub Lifted : Type 0
Lifted = (es : List Event) → stands_for (ran es) ≡ after rules es

-- these bytes are this message, with a sequence number of 32 bits
abbrev pub Means : List ℕ → mirror.Message → Type 0
Means bytes m = (message_in (read_of bytes) (drop 12 bytes) ≡ m ∷ []) × (sequence m ≤ most)

-- all are messages; all are acknowledgements
abbrev pub Messages : List (List ℕ) → Type 0
Messages l = All (λ bytes. (m : mirror.Message) × Means bytes m) l

abbrev pub Acknowledgements : List (List ℕ) → Type 0
Acknowledgements l = All (λ bytes. (k : ℕ) × (bytes ≡ acknowledgement k) × (k ≤ most)) l

-- what a call says that refuses with 16, and that nothing changes
abbrev pub refused16 : Cabinet → Said × Cabinet
refused16 c = (mirror.refused (refusal 16), c)

-- each call says what the system's rule says: the same refusal, the same number and strip, or the same acknowledgement
pub record Answers (c : Cabinets) (w : World) : Type 0 where
  pub on_add_law : (s : List ℕ) → (add s c.active).0 ≡ (rules.on_add s w.active).0
  pub on_take_law : (take_out c.active).0 ≡ (rules.on_take w.active).0
  pub on_acknowledgement_law : (k : ℕ) → k ≤ most → (acknowledge (acknowledgement k) c.active).0 ≡ (rules.on_acknowledgement k w.active).0
  -- and bytes that are no acknowledgement get 16
  pub on_no_acknowledgement : (bytes : List ℕ) → number_in (read_of bytes) ≡ [] → acknowledge bytes c.active ≡ refused16 c.active
  -- what is to be sent
  pub on_outstanding : messages_in (outstanding c.active) ≡ mirror.outstanding w.active
  -- any bytes that are read as a message, sent or not; and bytes that are no message get 16
  pub on_message_law : (bytes : List ℕ) (m : mirror.Message) → Means bytes m → (apply bytes c.standby).0 ≡ (rules.on_message m w.standby).0
  pub on_no_message : (bytes : List ℕ) → message_in (read_of bytes) (drop 12 bytes) ≡ [] → apply bytes c.standby ≡ refused16 c.standby
  -- what was sent are messages, and what was sent back acknowledgements
  pub link : Messages c.link
  pub back : Acknowledgements c.back
  -- the standby goes on alone when told; before that it neither adds nor takes
  pub on_cut : (go_alone c.standby).0 ≡ mirror.done
  pub on_add_alone_law : w.standby.alone ≡ true → (s : List ℕ) → (add s c.standby).0 ≡ (rules.on_add_alone s w.standby.pool).0
  pub on_take_alone_law : w.standby.alone ≡ true → (take_out c.standby).0 ≡ (rules.on_take_alone w.standby.pool).0
  pub no_add : w.standby.alone ≡ false → (s : List ℕ) → (add s c.standby).0 ≡ mirror.refused (refusal 6)
  pub no_take : w.standby.alone ≡ false → (take_out c.standby).0 ≡ mirror.refused (refusal 6)
  -- a standby, alone or not, has nothing outstanding: nothing is sent, and an acknowledgement that comes to it changes nothing
  pub nothing_outstanding : outstanding c.standby ≡ []
  pub on_acknowledgement_there : (k : ℕ) → k ≤ most → acknowledge (acknowledgement k) c.standby ≡ (mirror.done, c.standby)
  pub on_no_acknowledgement_there : (bytes : List ℕ) → number_in (read_of bytes) ≡ [] → acknowledge bytes c.standby ≡ refused16 c.standby
  -- and the active applies no message, whatever the bytes are
  pub on_message_here : (bytes : List ℕ) → apply bytes c.active ≡ refused16 c.active

abbrev pub Answered : Type 0
Answered = (es : List Event) → Answers (ran es) (after rules es)

-- every room that holds no strip in use is zero: all from the next to be filled up to the 64th after those that strips have left
abbrev pub Free : Cabinet → Type 0
Free c = (n : ℕ) → (state_in c.state).added ≤ n → n < gone (state_in c.state) + 64 → room_at c.rooms n ≡ replicate 676 0

abbrev pub FreeRooms : Type 0
FreeRooms = (es : List Event) → Free (ran es).active × Free (ran es).standby

-- the safety theorem, of runs of the calls
abbrev pub Safely : Type 0
Safely = (es : List Event) → Safe rules (stands_for (ran es))

-- no run makes a state that the calls refuse as one that no run makes
abbrev pub Unrefused : Type 0
Unrefused = (es : List Event) → (no_state (ran es).active.state ≡ false) × (no_state (ran es).standby.state ≡ false)
