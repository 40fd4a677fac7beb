-- What adding a strip answers and leaves, for every state, all rooms and any bytes: rule 7.1.
use Rattle.std.specs.Prelude.{ℕ, List, length, Ok, Err}
use Rattle.refusal.specs.Answer.{Answer, first}
use Rattle.pool_state.specs.declared.State.{State}
use Rattle.pool_state.specs.State.{adding, state_in, state_bytes, one_more}
use Rattle.pool_master.specs.Master.{sending}
use Rattle.pool_rooms.specs.Rooms.{filled}
use Rattle.pool_checks.specs.Checks.{add_checks}

-- the strip lies in the room of the next number
abbrev pub added : State → ℕ → List ℕ → List ℕ → List ℕ × List ℕ
added m role rooms s = (state_bytes (one_more m role), filled rooms m.added s)

unfoldable pub add_of : List ℕ → List ℕ → List ℕ → Answer (Unit {0}) × (List ℕ × List ℕ)
add_of st rooms s =
    let m = state_in st in
    first (add_checks st (length rooms) s) (λ r. (Err r, (st, rooms))) (Ok tt, added m (sending m adding) rooms s)
