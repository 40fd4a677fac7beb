-- A master's state: nine bytes that the host keeps, and which states a run of calls can make.
use Rattle.std.specs.Prelude.{ℕ, ◌+◌, ◌-◌, List, ◌∷◌, ◌++◌, Bool, cond, ◌&&◌, ◌||◌, length, get_or, eqb, leb, ltb}
use Rattle.refusal.specs.Answer.{above, is_not}
use Rattle.pool_numbers.specs.Numbers.{number_bytes, number_at}
use Rattle.pool_mirror.specs.Mirror.{most}
use Rattle.pool_state.specs.declared.State.{State}
use Rattle.pool_state.specs.declared.Role.{Role}
use Rattle.pool_state.specs.declared.Role.TheVariants.{Active, Adding, Taking, Standby, Alone}

-- the roles: an active master with nothing outstanding, with an addition, with a taking outstanding; a standby; one that goes on alone
abbrev pub active : ℕ
active = 0

abbrev pub adding : ℕ
adding = 1

abbrev pub taking : ℕ
taking = 2

abbrev pub standby : ℕ
standby = 3

abbrev pub alone : ℕ
alone = 4

abbrev pub number : Role → ℕ
number Active = active
number Adding = adding
number Taking = taking
number Standby = standby
number Alone = alone

-- a byte for the role, then how many strips were ever added and ever taken
unfoldable pub state_in : List ℕ → State
state_in l = record { role = get_or l 0 0; added = number_at l 1; taken = number_at l 5 }

unfoldable pub state_bytes : State → List ℕ
state_bytes m = m.role ∷ number_bytes m.added ++ number_bytes m.taken

-- a master after one more addition, after one more taking, and only in another role
unfoldable pub one_more : State → ℕ → State
one_more m role = record { role = role; added = m.added + 1; taken = m.taken }

unfoldable pub one_taken : State → ℕ → State
one_taken m role = record { role = role; added = m.added; taken = m.taken + 1 }

unfoldable pub with_role : State → ℕ → State
with_role m role = record { role = role; added = m.added; taken = m.taken }

-- each addition and each taking is one message, so the last sequence number is their sum
abbrev pub sent : State → ℕ
sent m = m.added + m.taken

-- as many strips are held as there are rooms
unfoldable pub full : State → Bool
full m = leb 64 (m.added - m.taken)

-- how many strips have left their rooms: one taken has not while its taking is outstanding
unfoldable pub gone : State → ℕ
gone m = cond (eqb m.role taking) (m.taken - 1) m.taken

-- an outstanding message that was never sent
unfoldable pub never_sent : State → Bool
never_sent m = (eqb m.role adding && eqb m.added m.taken) || (eqb m.role taking && eqb m.taken 0)

-- rule 7.7: where sequence numbers end; a master alone sends nothing
unfoldable pub sent_too_much : State → Bool
sent_too_much m = is_not alone m.role && above most (sent m)

-- a state that no run of calls makes: no such role, more taken than added, more strips than rooms, or a message that cannot have been sent
unfoldable pub impossible : State → Bool
impossible m = above alone m.role || (ltb m.added m.taken || (above (gone m + 64) m.added || (never_sent m || sent_too_much m)))

-- 6: the state is not lent as nine bytes, or is none that calls make
unfoldable pub no_state : List ℕ → Bool
no_state l = is_not 9 (length l) || impossible (state_in l)
