-- When a master's sequence numbers are used up, and when it holds no strip. Assumes nothing.
use Prim.Native.Nat.{ℕ, ◌+◌, ◌≤◌}
use mathlib.Core.Path.{◌≡◌, refl}
use mathlib.Core.Bool.{true}
use borrow.Author.Tests.{le-leb, ne_eqb}
use Rattle.pool_state.specs.declared.State.{State}
use Rattle.pool_master.specs.Master.{used_up, none_held}

module _ (m : State) where
  pub used_up_law : (m.role ≡ 4 → ⊥) → 4294967295 ≤ m.added + m.taken → true ≡ used_up m
  unfolding used_up
  used_up_law h g = rw (ne_eqb m.role 4 h, le-leb 4294967295 (m.added + m.taken) g) refl

  pub none_held_law : m.added ≤ m.taken → true ≡ none_held m
  unfolding none_held
  none_held_law h = rw (le-leb m.added m.taken h) refl
