-- A permutation of the numbers below n does not change a sum over them; so it takes each value once. Assumes nothing.
use mathlib.Core.Path.{◌≡◌, refl, sym, ap, ap₂, ◌∙◌, subst}
use mathlib.Core.Bool.{Bool, true, false}
use mathlib.Core.Logic.{⊎_elim}
use Prim.Native.Nat.{ℕ, zero, suc, ◌+◌, ◌*◌, ◌<◌, ◌≤◌}
use native.Mathlib.Nat.{mul-zero, zero-mul, one-mul, add-zero, zero-add, not-suc-le-zero, eq-or-lt_of_le, le_of_suc-le-suc}
use native.Mathlib.Omega.{arith}
use lib.Dec.{T, eqb, ltb, ltb→lt}
use borrow.Author.Tests.{ne_eqb, eq-eqb, eqb-true, eqb-false, le-ltb, lt-ltb}
use Rattle.fips197.proofs.Below.{allb, all_at, below_or_not}
use Rattle.counting.specs.Counting.{sum, one, share}
use Rattle.counting.proofs.Sum.{sum_ext, sum_each, sum_swap}

abbrev pub is : ℕ → ℕ → ℕ
is x v = one (eqb x v)

hit : (n : ℕ) (f : ℕ → ℕ) → is n n * f n ≡ f n
hit n f = ap (λ (b : Bool). one b * f n) (eq-eqb n n refl) ∙ one-mul (f n)

miss : (y a c : ℕ) → (y ≡ a → ⊥) → is y a * c ≡ 0
miss y a c ne = ap (λ (b : Bool). one b * c) (ne_eqb y a ne) ∙ zero-mul c

-- of a sum over the numbers below n only the one at a is left
pub sum_delta : (n a : ℕ) (f : ℕ → ℕ) → a < n → sum n (λ y. is y a * f y) ≡ f a
unfolding sum
sum_delta zero a f h = absurd (not-suc-le-zero h)
sum_delta (suc n) a f h =
    ⊎_elim
    (λ (e : a ≡ n). subst (λ (k : ℕ). is n k * f n + sum n (λ y. is y k * f y) ≡ f k) (sym e)
    (ap₂ (λ (x y : ℕ). x + y) (hit n f) (sum_each n _ 0 (λ y l. miss y n (f y) (λ q. absurd (omega arith))) ∙ mul-zero n) ∙ add-zero (f n)))
    (λ (l : a < n). ap₂ (λ (x y : ℕ). x + y) (miss n a (f n) (λ q. absurd (omega arith))) (sum_delta n a f l) ∙ zero-add (f a))
    (eq-or-lt_of_le (le_of_suc-le-suc h))

same_test : (a b c d : ℕ) → (a ≡ b → c ≡ d) → (c ≡ d → a ≡ b) → eqb a b ≡ eqb c d
same_test a b c d f g = go (eqb a b) refl
  where
    go : (t : Bool) → eqb a b ≡ t → eqb a b ≡ eqb c d
    go true e = e ∙ sym (eq-eqb c d (f (eqb-true a b e)))
    go false e = e ∙ sym (ne_eqb c d (λ h. eqb-false a b e (g h)))

-- φ permutes the numbers below n, and ψ undoes it
pub record Permutes (n : ℕ) (φ ψ : ℕ → ℕ) : Type 0 where
  pub bounded : (x : ℕ) → x < n → φ x < n
  pub bounded_back : (x : ℕ) → x < n → ψ x < n
  pub there : (x : ℕ) → x < n → ψ (φ x) ≡ x
  pub back : (x : ℕ) → x < n → φ (ψ x) ≡ x

pub identical : (n : ℕ) → Permutes n (λ x. x) (λ x. x)
identical n = record { bounded = λ x h. h; bounded_back = λ x h. h; there = λ x h. refl; back = λ x h. refl }

-- a permutation given with the list of what it is undone by
pub tested : (n : ℕ) (φ ψ : ℕ → ℕ) → T (allb n (λ x. ltb (φ x) n)) → T (allb n (λ x. ltb (ψ x) n))
    → ((x : ℕ) → x < n → ψ (φ x) ≡ x) → ((x : ℕ) → x < n → φ (ψ x) ≡ x) → Permutes n φ ψ
tested n φ ψ s t e f = record {
  bounded = λ x h. ltb→lt (φ x) n (all_at n (λ x. ltb (φ x) n) s x h);
  bounded_back = λ x h. ltb→lt (ψ x) n (all_at n (λ x. ltb (ψ x) n) t x h);
  there = e;
  back = f;
}

pub sum_perm : (n : ℕ) (φ ψ : ℕ → ℕ) → Permutes n φ ψ → (f : ℕ → ℕ) → sum n (λ x. f (φ x)) ≡ sum n f
sum_perm n φ ψ P f =
    sum_ext n _ (λ x. sum n (λ y. is y (φ x) * f y)) (λ x l. sym (sum_delta n (φ x) f (P.bounded x l)))
    ∙ sum_swap n n (λ x y. is y (φ x) * f y)
    ∙ sum_ext n _ f (λ y l.
    sum_ext n _ (λ x. is x (ψ y) * f y) (λ x k.
    ap (λ (t : Bool). one t * f y) (same_test y (φ x) x (ψ y) (λ e. sym (P.there x k) ∙ ap ψ (sym e)) (λ e. sym (P.back y l) ∙ ap φ (sym e))))
    ∙ sum_delta n (ψ y) (λ _. f y) (P.bounded_back y l))

-- ---- how often a value comes up; one that is not below n never does

-- Fact 1: each number below n is v once, or never where v is not below n; so is each value of a permutation.
plain : (n v : ℕ) → 0 < n → sum n (λ x. is x v) ≡ share n 1 1 v
plain n v pos =
    ⊎_elim (λ l. sum_ext n _ (λ x. is x v * 1) (λ x h. omega arith) ∙ sum_delta n v (λ x. 1) l ∙ sym (once v l))
    (λ l. sum_each n _ 0 (λ x h. ap one (ne_eqb x v (λ e. omega arith))) ∙ mul-zero n ∙ sym (never v l)) (below_or_not v n)
  where
    once : (v : ℕ) → v < n → share n 1 1 v ≡ 1
    once zero l = refl
    once (suc v) l = rw (lt-ltb (suc v) n l)

    never : (v : ℕ) → n ≤ v → share n 1 1 v ≡ 0
    never zero l = absurd (omega arith)
    never (suc v) l = rw (le-ltb (suc v) n l)

pub evenly : (n : ℕ) (φ ψ : ℕ → ℕ) → Permutes n φ ψ → (v : ℕ) → 0 < n → sum n (λ x. is (φ x) v) ≡ share n 1 1 v
evenly n φ ψ P v pos = sum_perm n φ ψ P (λ x. is x v) ∙ plain n v pos
