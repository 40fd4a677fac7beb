-- Which case of `on_length` a test of the length has shown, and what is left where the length is right. Assumes nothing.
use Prim.Native.Nat.{ℕ}
use mathlib.Core.Path.{◌≡◌, refl, ◌∙◌}
use mathlib.Core.List.{List}
use lib.ListN.{length}
use borrow.Author.Tests.{eq-eqb, ne_eqb}
use Rattle.refusal.specs.Part.{on_length}

module _ {size : ℕ} (f : List ℕ → List ℕ) (l x : List ℕ) where
  pub on_length_law : length l ≡ size → x ≡ f l → x ≡ on_length size f l
  unfolding on_length
  on_length_law h e = rw (eq-eqb (length l) size h) e

  pub off_length : (length l ≡ size → ⊥) → x ≡ l → x ≡ on_length size f l
  unfolding on_length
  off_length h e = rw (ne_eqb (length l) size h) e

  pub of_length : length l ≡ size → x ≡ on_length size f l → x ≡ f l
  unfolding on_length
  of_length h e = e ∙ rw (eq-eqb (length l) size h) refl
