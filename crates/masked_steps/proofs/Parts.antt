-- Which case of a step on two states the tests of the code have shown. Assumes nothing.
use Prim.Native.Nat.{ℕ}
use mathlib.Core.Path.{◌≡◌, refl}
use mathlib.Core.List.{List}
use lib.ListN.{length}
use borrow.Author.Tests.{eq-eqb, ne_eqb}
use Rattle.masked_steps.specs.Steps.{Parts, on_states}

-- two states, or not
module _ (f : Parts → Parts) (d m : List ℕ) where
  pub on_states_law : length d ≡ 16 → length m ≡ 16 → (x : Parts) → x ≡ f (d, m) → x ≡ on_states f (d, m)
  unfolding on_states
  on_states_law h g x e = rw (eq-eqb (length d) 16 h, eq-eqb (length m) 16 g) e

  pub no_data : (length d ≡ 16 → ⊥) → (d, m) ≡ on_states f (d, m)
  unfolding on_states
  no_data h = rw (ne_eqb (length d) 16 h) refl

  pub no_mask : length d ≡ 16 → (length m ≡ 16 → ⊥) → (d, m) ≡ on_states f (d, m)
  unfolding on_states
  no_mask h g = rw (eq-eqb (length d) 16 h, ne_eqb (length m) 16 g) refl
