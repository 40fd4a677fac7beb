-- What each call of the standby answers and leaves, for every state, all rooms and any bytes: rules 7.3 to 7.5.
use Rattle.std.specs.Prelude.{ℕ, List, cond, length, drop, leb, Option, Some, None, Ok, Err}
use Rattle.refusal.specs.Answer.{Answer, first}
use Rattle.pool_message.specs.Message as message
use Rattle.pool_message.specs.Message.{sequence}
use Rattle.pool_message.specs.declared.Message.{Message}
use Rattle.pool_message.specs.declared.Message.TheVariants.{Adds, Takes, Acknowledges}
use Rattle.pool_state.specs.declared.State.{State}
use Rattle.pool_state.specs.State.{standby, alone, state_in, state_bytes, one_more, one_taken, with_role, sent}
use Rattle.pool_rooms.specs.Rooms.{filled, cleared}
use Rattle.pool_checks.specs.Checks.{apply_checks, go_alone_checks}

-- what the next message asks for is done
unfoldable pub applied : State → Option Message → List ℕ → List ℕ → List ℕ × List ℕ
applied m (Some (Adds k n)) s rooms = (state_bytes (one_more m standby), filled rooms m.added s)
applied m (Some (Takes k n)) s rooms = (state_bytes (one_taken m standby), cleared rooms m.taken)
applied m (Some (Acknowledges k)) s rooms = (state_bytes m, rooms)
applied m None s rooms = (state_bytes m, rooms)

-- a message that was applied before changes nothing and is acknowledged again
abbrev pub answered : List ℕ → List ℕ → Option Message → List ℕ → List ℕ × (List ℕ × List ℕ)
answered st rooms x s =
    let new = cond (leb (sequence x) (sent (state_in st))) (st, rooms) (applied (state_in st) x s rooms) in
    (new.0, (new.1, message.acknowledgement (sequence x)))

unfoldable pub apply_of : List ℕ → List ℕ → List ℕ → List ℕ → Answer (Unit {0}) × (List ℕ × (List ℕ × List ℕ))
apply_of st rooms bytes ack =
    first (apply_checks st (length rooms) bytes (length ack)) (λ r. (Err r, (st, (rooms, ack))))
    (Ok tt, answered st rooms (message.read_of bytes) (drop 12 bytes))

-- the standby goes on alone from what it has applied
unfoldable pub go_alone_of : List ℕ → Answer (Unit {0}) × List ℕ
go_alone_of st = first (go_alone_checks st) (λ r. (Err r, st)) (Ok tt, state_bytes (with_role (state_in st) alone))
