-- The outstanding message of a master, as it is read out.
use Rattle.std.specs.Prelude.{ℕ, ◌-◌, List, [], cond, length, eqb, Ok, Err}
use Rattle.refusal.specs.Answer.{Answer, first}
use Rattle.pool_message.specs.Message as message
use Rattle.pool_state.specs.declared.State.{State}
use Rattle.pool_state.specs.State.{adding, taking, state_in, sent}
use Rattle.pool_rooms.specs.Rooms.{room_at, padded, strip_in}
use Rattle.pool_checks.specs.Checks.{outstanding_checks}

-- the outstanding message, zeros behind it; all zeros where none is
unfoldable pub message_of : State → List ℕ → List ℕ
message_of m rooms =
    cond (eqb m.role adding) (message.addition (sent m) m.added (strip_in (room_at rooms (m.added - 1))))
    (cond (eqb m.role taking) (message.taking (sent m) m.taken) [])

unfoldable pub outstanding_of : List ℕ → List ℕ → List ℕ → Answer (Unit {0}) × List ℕ
outstanding_of st rooms out =
    first (outstanding_checks st (length rooms) (length out)) (λ r. (Err r, out)) (Ok tt, padded 688 (message_of (state_in st) rooms))
