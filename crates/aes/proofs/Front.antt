-- A list that a loop turns from P into X, front first: X up to i, and P from there. Assumes nothing.
use Prim.Native.Nat.{ℕ, zero, suc, ◌+◌, ◌<◌}
use native.Mathlib.Nat.{not-suc-le-zero, le_of_suc-le-suc}
use native.Mathlib.Numerals.{add-one}
use native.Mathlib.Omega.{arith}
use mathlib.Core.Path.{◌≡◌, refl, sym, ap, ◌∙◌}
use mathlib.Core.List.{List, [], ◌∷◌, ◌++◌}
use lib.ListN.{length, get_or, take, drop, set}
use lib.Bits.{bit_xor}
use Rattle.fips197.specs.Field.{◌⊕◌}
use Rattle.fips197.specs.Cipher.{◌⊞◌}
use Rattle.fips197.proofs.State.{length_plus, get_plus}

unfoldable pub front : List ℕ → List ℕ → ℕ → List ℕ
front X P i = take i X ++ drop i P

pub front_none : (X P : List ℕ) → P ≡ front X P 0
unfolding front
front_none X P = refl

front_suc : (X P : List ℕ) (i : ℕ) → length X ≡ length P → i < length P → set (front X P i) i (get_or X i 0) ≡ front X P (suc i)
unfolding front
front_suc X [] i e h = absurd (not-suc-le-zero h)
front_suc [] (p ∷ P) i e h = absurd (omega arith)
front_suc (x ∷ X) (p ∷ P) zero e h = refl
front_suc (x ∷ X) (p ∷ P) (suc i) e h = ap (λ (t : List ℕ). x ∷ t) (front_suc X P i (omega arith) (le_of_suc-le-suc h))

-- the next element stored
pub front_more : (X P : List ℕ) (i v : ℕ) → length X ≡ length P → i < length P → v ≡ get_or X i 0 → set (front X P i) i v ≡ front X P (i + 1)
front_more X P i v e h q = rw (q, add-one) (front_suc X P i e h)

-- what is not reached yet is as it was
pub front_get : (X P : List ℕ) (i : ℕ) → length X ≡ length P → i < length P → get_or (front X P i) i 0 ≡ get_or P i 0
unfolding front
front_get X [] i e h = absurd (not-suc-le-zero h)
front_get [] (p ∷ P) i e h = absurd (omega arith)
front_get (x ∷ X) (p ∷ P) zero e h = refl
front_get (x ∷ X) (p ∷ P) (suc i) e h = front_get X P i (omega arith) (le_of_suc-le-suc h)

pub front_all : (X P : List ℕ) (i : ℕ) → length X ≡ length P → i ≡ length P → front X P i ≡ X
unfolding front
front_all [] [] zero e h = refl
front_all [] [] (suc i) e h = absurd (omega arith)
front_all [] (p ∷ P) i e h = absurd (omega arith)
front_all (x ∷ X) [] i e h = absurd (omega arith)
front_all (x ∷ X) (p ∷ P) zero e h = absurd (omega arith)
front_all (x ∷ X) (p ∷ P) (suc i) e h = ap (λ (t : List ℕ). x ∷ t) (front_all X P i (omega arith) (omega arith))

-- the same of a list Q that is known to be the front
module _ (X P Q : List ℕ) (i : ℕ) (is : Q ≡ front X P i) (e : length X ≡ length P) where
  pub front_step : (v : ℕ) → i < length P → v ≡ get_or X i 0 → set Q i v ≡ front X P (i + 1)
  front_step v h q = rw is (front_more X P i v e h q)

  pub front_here : i < length P → get_or Q i 0 ≡ get_or P i 0
  front_here h = rw is (front_get X P i e h)

  pub front_done : i ≡ length P → Q ≡ X
  front_done h = is ∙ front_all X P i e h

-- the sum of two lists as a loop makes it
pub sum_next : (p k q : List ℕ) (i : ℕ) → q ≡ front (p ⊞ k) p i → length p ≡ length k → i < length p → bit_xor (get_or q i 0) (get_or k i 0) ≡ get_or (p ⊞ k) i 0
unfolding ◌⊕◌
sum_next p k q i is e h =
    ap (λ (x : ℕ). bit_xor x (get_or k i 0)) (front_here (p ⊞ k) p q i is (length_plus p k (omega arith)) h) ∙ sym (get_plus p k i)
