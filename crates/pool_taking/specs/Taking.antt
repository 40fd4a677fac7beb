-- What taking and an acknowledgement answer and leave, for every state, all rooms and any bytes: rules 7.2 and 7.3.
use Rattle.std.specs.Prelude.{ℕ, ◌+◌, ◌-◌, List, cond, length, eqb, Ok, Err}
use Rattle.refusal.specs.Answer.{Answer, first}
use Rattle.pool_numbers.specs.Numbers.{number_bytes}
use Rattle.pool_message.specs.Message as message
use Rattle.pool_message.specs.Message.{sequence}
use Rattle.pool_state.specs.declared.State.{State}
use Rattle.pool_state.specs.State.{active, taking, alone, state_in, state_bytes, one_taken, with_role}
use Rattle.pool_master.specs.Master.{sending, counts}
use Rattle.pool_rooms.specs.Rooms.{room_at, cleared}
use Rattle.pool_checks.specs.Checks.{take_checks, acknowledge_checks}

-- ---- handing out: the rooms, a strip's number and the strip, when it is handed out and its room zeroed, and when none is: then the number is 0
unfoldable pub handing : List ℕ → ℕ → List ℕ × (List ℕ × List ℕ)
handing rooms n = (cleared rooms n, (number_bytes (n + 1), room_at rooms n))

unfoldable pub handing_none : List ℕ → List ℕ → List ℕ × (List ℕ × List ℕ)
handing_none rooms strip = (rooms, (number_bytes 0, strip))

-- ---- taking: the lowest number is the next after those ever taken. Alone it is handed out at once.
abbrev pub taken : State → List ℕ → List ℕ → List ℕ × (List ℕ × (List ℕ × List ℕ))
taken m rooms strip =
    (state_bytes (one_taken m (sending m taking)), cond (eqb m.role alone) (handing rooms m.taken) (handing_none rooms strip))

unfoldable pub take_of : List ℕ → List ℕ → List ℕ → List ℕ → Answer (Unit {0}) × (List ℕ × (List ℕ × (List ℕ × List ℕ)))
take_of st rooms number strip =
    first (take_checks st (length rooms) (length number) (length strip)) (λ r. (Err r, (st, (rooms, (number, strip)))))
    (Ok tt, taken (state_in st) rooms strip)

-- ---- an acknowledgement: only that of the outstanding number counts, and one of a taking hands the strip out
unfoldable pub settle : State → List ℕ → List ℕ → List ℕ × (List ℕ × (List ℕ × List ℕ))
settle m rooms strip = (state_bytes (with_role m active), cond (eqb m.role taking) (handing rooms (m.taken - 1)) (handing_none rooms strip))

abbrev pub acknowledged : List ℕ → List ℕ → ℕ → List ℕ → List ℕ × (List ℕ × (List ℕ × List ℕ))
acknowledged st rooms k strip = cond (counts (state_in st) k) (settle (state_in st) rooms strip) (st, handing_none rooms strip)

unfoldable pub acknowledge_of : List ℕ → List ℕ → List ℕ → List ℕ → List ℕ → Answer (Unit {0}) × (List ℕ × (List ℕ × (List ℕ × List ℕ)))
acknowledge_of st rooms bytes number strip =
    first (acknowledge_checks st (length rooms) bytes (length number) (length strip)) (λ r. (Err r, (st, (rooms, (number, strip)))))
    (Ok tt, acknowledged st rooms (sequence (message.read_of bytes)) strip)
