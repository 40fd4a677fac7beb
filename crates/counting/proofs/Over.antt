-- Sums over lists of numbers; and that one number of them may be chosen again. Assumes nothing.
use mathlib.Core.Path.{◌≡◌, refl, sym, ap, ◌∙◌}
use mathlib.Core.List.{List, [], ◌∷◌}
use Prim.Native.Nat.{ℕ, zero, suc, ◌*◌, ◌<◌}
use native.Mathlib.Nat.{mul_assoc, one-mul, le_of_suc-le-suc, not-suc-le-zero}
use lib.ListN.{length, get_or, set}
use Rattle.counting.specs.Counting.{sum, over, product}
use Rattle.counting.proofs.Sum.{sum_ext, sum_each, sum_scale, sum_swap, const}

pub over_ext : (ns : List ℕ) (f g : List ℕ → ℕ) → ((l : List ℕ) → length l ≡ length ns → f l ≡ g l) → over ns f ≡ over ns g
unfolding over
over_ext [] f g e = e [] refl
over_ext (n ∷ ns) f g e = sum_ext n _ _ (λ x h. over_ext ns _ _ (λ l w. e (x ∷ l) (ap suc w)))

pub over_const : (ns : List ℕ) (c : ℕ) → over ns (λ l. c) ≡ product ns * c
unfolding over product
over_const [] c = sym (one-mul c)
over_const (n ∷ ns) c = sum_each n _ (product ns * c) (λ k l. over_const ns c) ∙ sym (mul_assoc n (product ns) c)

over_sum : (n : ℕ) (ns : List ℕ) (f : ℕ → List ℕ → ℕ) → sum n (λ x. over ns (λ l. f x l)) ≡ over ns (λ l. sum n (λ x. f x l))
unfolding over
over_sum n [] f = refl
over_sum n (m ∷ ns) f =
    sum_swap n m (λ x y. over ns (λ l. f x (y ∷ l))) ∙ sum_ext m _ _ (λ y h. over_sum n ns (λ x l. f x (y ∷ l)))

-- one number chosen again
pub again : (ns : List ℕ) (j : ℕ) (f : List ℕ → ℕ) → j < length ns → get_or ns j 1 * over ns f ≡ over ns (λ l. sum (get_or ns j 1) (λ x. f (set l j x)))
unfolding over
again [] j f h = absurd (not-suc-le-zero h)
again (n ∷ ns) zero f h =
    ap (λ (s : ℕ). n * s) (over_sum n ns (λ x l. f (x ∷ l))) ∙ sym (const n (over ns (λ l. sum n (λ x. f (x ∷ l)))))
again (n ∷ ns) (suc j) f h =
    sym (sum_scale n (get_or ns j 1) (λ y. over ns (λ l. f (y ∷ l))))
    ∙ sum_ext n _ _ (λ y k. again ns j (λ l. f (y ∷ l)) (le_of_suc-le-suc h))
