-- A rule for all numbers below n, by one computed test. Assumes nothing.
use mathlib.Core.Path.{◌≡◌, refl, subst, sym}
use mathlib.Core.Bool.{Bool, true, false, ◌&&◌}
use mathlib.Core.Logic.{◌⊎◌, ◌⊎◌.inl, ◌⊎◌.inr, ⊎_elim}
use Prim.Native.Nat.{ℕ, zero, suc, ◌-◌, ◌<◌, ◌≤◌}
use native.Mathlib.Nat.{not-suc-le-zero, le_of_suc-le-suc, eq-or-lt_of_le}
use native.Mathlib.Omega.{arith}
use lib.Dec.{T, eqb, ltb, eqb→eq}
use borrow.Author.Tests.{ltb-true, ltb-false}

pub both_left : (a b : Bool) → T (a && b) → T a
both_left true b t = tt
both_left false b t = t

pub both_right : (a b : Bool) → T (a && b) → T b
both_right true b t = t
both_right false b t = absurd t

abbrev pub allb : ℕ → (ℕ → Bool) → Bool
allb zero f = true
allb (suc n) f = f n && allb n f

pub all_at : (n : ℕ) (f : ℕ → Bool) → T (allb n f) → (k : ℕ) → k < n → T (f k)
all_at zero f t k h = absurd (not-suc-le-zero h)
all_at (suc n) f t k h =
    ⊎_elim (λ e. subst (λ (m : ℕ). T (f m)) (sym e) (both_left (f n) (allb n f) t)) (λ l. all_at n f (both_right (f n) (allb n f) t) k l)
    (eq-or-lt_of_le (le_of_suc-le-suc h))

-- an equation of one, two, three variables; and of one that is not zero
pub eq1 : (n : ℕ) (f g : ℕ → ℕ) → T (allb n (λ a. eqb (f a) (g a))) → (a : ℕ) → a < n → f a ≡ g a
eq1 n f g t a h = eqb→eq (f a) (g a) (all_at n (λ a. eqb (f a) (g a)) t a h)

pub eq2 : (n m : ℕ) (f g : ℕ → ℕ → ℕ) → T (allb n (λ a. allb m (λ b. eqb (f a b) (g a b)))) → (a b : ℕ) → a < n → b < m → f a b ≡ g a b
eq2 n m f g t a b h k = eq1 m (f a) (g a) (all_at n (λ a. allb m (λ b. eqb (f a b) (g a b))) t a h) b k

pub eq3 : (n m l : ℕ) (f g : ℕ → ℕ → ℕ → ℕ) → T (allb n (λ a. allb m (λ b. allb l (λ c. eqb (f a b c) (g a b c)))))
    → (a b c : ℕ) → a < n → b < m → c < l → f a b c ≡ g a b c
eq3 n m l f g t a b c h k j = eq2 m l (f a) (g a) (all_at n (λ a. allb m (λ b. allb l (λ c. eqb (f a b c) (g a b c)))) t a h) b c k j

pub eq1_pos : (n : ℕ) (f g : ℕ → ℕ) → T (allb (n - 1) (λ a. eqb (f (suc a)) (g (suc a)))) → (a : ℕ) → 0 < a → a < n → f a ≡ g a
eq1_pos n f g t zero p h = absurd (not-suc-le-zero p)
eq1_pos n f g t (suc a) p h = eq1 (n - 1) (λ a. f (suc a)) (λ a. g (suc a)) t a (omega arith)

pub all_at2 : (n m : ℕ) (f : ℕ → ℕ → Bool) → T (allb n (λ a. allb m (λ b. f a b))) → (a b : ℕ) → a < n → b < m → T (f a b)
all_at2 n m f t a b h k = all_at m (f a) (all_at n (λ a. allb m (λ b. f a b)) t a h) b k

-- a statement of each number below n, proved one by one
infixl 10 ◌▸◌
pub data Each (P : ℕ → Type 0) : ℕ → Type 0 where
  none : Each P zero
  ◌▸◌ : {n : ℕ} → Each P n → P n → Each P (suc n)

pub each_at : {P : ℕ → Type 0} {n : ℕ} → Each P n → (k : ℕ) → k < n → P k
each_at none k h = absurd (not-suc-le-zero h)
each_at {P} (ps ▸ p) k h =
    ⊎_elim (λ e. subst P (sym e) p) (λ l. each_at ps k l) (eq-or-lt_of_le (le_of_suc-le-suc h))

-- a number is below another or it is not
pub below_or_not : (a b : ℕ) → (a < b) ⊎ (b ≤ a)
below_or_not a b = go (ltb a b) refl
  where
    go : (t : Bool) → ltb a b ≡ t → (a < b) ⊎ (b ≤ a)
    go true e = inl (ltb-true a b e)
    go false e = inr (ltb-false a b e)
