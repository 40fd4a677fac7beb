-- What the definitions over a state give, for the proofs of runs of calls. Assumes nothing.
use mathlib.Core.Path.{◌≡◌, refl}
use lib.ListN.{length}
use borrow.Author.Tests.{ne_eqb}
use Rattle.pool_numbers.specs.Numbers.{number_bytes}
use Rattle.pool_state.specs.declared.State.{State}
use Rattle.pool_state.specs.State.{state_bytes, gone}

pub gone_other : (m : State) → (m.role ≡ 2 → ⊥) → m.taken ≡ gone m
unfolding gone
gone_other m h = rw (ne_eqb m.role 2 h) refl

pub state_length : (m : State) → length (state_bytes m) ≡ 9
unfolding state_bytes number_bytes
state_length m = refl
