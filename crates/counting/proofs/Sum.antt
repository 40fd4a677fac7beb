-- Sums over the numbers below n: equal summands, a product of ranges, their order, and that adding a number to the variable permutes it. Assumes nothing.
use mathlib.Core.Path.{◌≡◌, refl, sym, ap, ap₂, ◌∙◌, subst}
use Prim.Native.Nat.{ℕ, zero, suc, ◌+◌, ◌*◌, ◌/◌, ◌%◌, ◌^◌, ◌<◌}
use native.Mathlib.Nat.{le_refl, le_trans, le-suc, add-zero, zero-add, add-suc, add_comm, add_assoc, suc-mul, zero-mul, mul-zero, mod-lt, mod-eq_of_lt, zero-lt-suc, pow-suc, div-lt_iff_lt-mul, div-add-mod'}
use native.Mathlib.Omega.{arith}
use lib.Bits.{xor_block}
use lib.Pow.{high, low}
use Rattle.fips197.specs.Field.{◌⊕◌}
use Rattle.tower.specs.Tower.{hi, lo}
use Rattle.counting.specs.Counting.{sum}

pub sum_ext : (n : ℕ) (f g : ℕ → ℕ) → ((k : ℕ) → k < n → f k ≡ g k) → sum n f ≡ sum n g
unfolding sum
sum_ext zero f g h = refl
sum_ext (suc n) f g h = ap₂ (λ (x y : ℕ). x + y) (h n (le_refl (suc n))) (sum_ext n f g (λ k l. h k (le_trans l (le-suc n))))

pub sum_each : (n : ℕ) (f : ℕ → ℕ) (c : ℕ) → ((k : ℕ) → k < n → f k ≡ c) → sum n f ≡ n * c
unfolding sum
sum_each zero f c h = sym (zero-mul c)
sum_each (suc n) f c h =
    ap₂ (λ (x y : ℕ). x + y) (h n (le_refl (suc n))) (sum_each n f c (λ k l. h k (le_trans l (le-suc n))))
    ∙ add_comm c (n * c) ∙ sym (suc-mul n c)

pub sum_scale : (n c : ℕ) (f : ℕ → ℕ) → sum n (λ x. c * f x) ≡ c * sum n f
unfolding sum
sum_scale zero c f = omega arith
sum_scale (suc n) c f = ap (λ (x : ℕ). c * f n + x) (sum_scale n c f) ∙ omega arith

pub sum_by : (n c : ℕ) (f g : ℕ → ℕ) → ((k : ℕ) → f k ≡ c * g k) → sum n f ≡ c * sum n g
sum_by n c f g h = sum_ext n f (λ k. c * g k) (λ k l. h k) ∙ sum_scale n c g

pub const : (n c : ℕ) → sum n (λ x. c) ≡ n * c
const n c = sum_each n (λ x. c) c (λ k l. refl)

pub sum_add : (p n : ℕ) (f : ℕ → ℕ) → sum (p + n) f ≡ sum n (λ b. f (p + b)) + sum p f
unfolding sum
sum_add p zero f = ap (λ (x : ℕ). sum x f) (add-zero p) ∙ sym (zero-add (sum p f))
sum_add p (suc n) f =
    ap (λ (x : ℕ). sum x f) (add-suc p n) ∙ ap (λ (x : ℕ). f (p + n) + x) (sum_add p n f)
    ∙ sym (add_assoc (f (p + n)) (sum n (λ b. f (p + b))) (sum p f))

pub sum_split : (m n : ℕ) (f : ℕ → ℕ) → sum (m * n) f ≡ sum m (λ a. sum n (λ b. f (a * n + b)))
unfolding sum
sum_split zero n f = ap (λ (x : ℕ). sum x f) (zero-mul n)
sum_split (suc m) n f =
    ap (λ (x : ℕ). sum x f) (suc-mul m n) ∙ sum_add (m * n) n f
    ∙ ap (λ (x : ℕ). sum n (λ b. f (m * n + b)) + x) (sum_split m n f)

sum_plus : (n : ℕ) (f g : ℕ → ℕ) → sum n (λ x. f x + g x) ≡ sum n f + sum n g
unfolding sum
sum_plus zero f g = refl
sum_plus (suc n) f g = ap (λ (x : ℕ). f n + g n + x) (sum_plus n f g) ∙ omega arith

-- the order of two sums does not matter
pub sum_swap : (n m : ℕ) (f : ℕ → ℕ → ℕ) → sum n (λ x. sum m (λ y. f x y)) ≡ sum m (λ y. sum n (λ x. f x y))
unfolding sum
sum_swap zero m f = sym (sum_each m (λ y. 0) 0 (λ k l. refl) ∙ mul-zero m)
sum_swap (suc n) m f = ap (λ (x : ℕ). sum m (λ y. f n y) + x) (sum_swap n m f) ∙ sym (sum_plus m (λ y. f n y) (λ y. sum n (λ x. f x y)))

-- x ↦ x ⊕ j is a permutation of the numbers below 2 ^ n
sum_flip : (f : ℕ → ℕ) (j : ℕ) → j < 2 → sum 2 (λ b. f (b ⊕ j)) ≡ sum 2 f
unfolding sum ◌⊕◌
sum_flip f zero h = refl
sum_flip f (suc zero) h = omega arith
sum_flip f (suc (suc j)) h = absurd (omega arith)

pub sum_xor : (n : ℕ) (f : ℕ → ℕ) (j : ℕ) → j < 2 ^ n → sum (2 ^ n) (λ x. f (x ⊕ j)) ≡ sum (2 ^ n) f
unfolding sum ◌⊕◌
sum_xor zero f zero h = refl
sum_xor zero f (suc j) h = absurd (omega arith)
sum_xor (suc n) f j h =
    ap (λ (x : ℕ). sum x (λ x. f (x ⊕ j))) (pow-suc 2 n) ∙ sum_split (2 ^ n) 2 (λ x. f (x ⊕ j))
    ∙ sum_ext (2 ^ n) _ (λ a. sum 2 (λ b. f ((a ⊕ j / 2) * 2 + b))) (λ a l.
    sum_ext 2 _ (λ b. f ((a ⊕ j / 2) * 2 + (b ⊕ j % 2))) (λ b k.
    ap f (ap (λ (x : ℕ). (a * 2 + b) ⊕ x) (sym (div-add-mod' j 2)) ∙ xor_block 1 a (j / 2) b (j % 2) k (mod-lt j (zero-lt-suc 1))))
    ∙ sum_flip (λ b. f ((a ⊕ j / 2) * 2 + b)) (j % 2) (mod-lt j (zero-lt-suc 1)))
    ∙ sum_xor n (λ a. sum 2 (λ b. f (a * 2 + b))) (j / 2) ((div-lt_iff_lt-mul (zero-lt-suc 1)).1 (subst (λ (x : ℕ). j < x) (pow-suc 2 n) h))
    ∙ sym (sum_split (2 ^ n) 2 f) ∙ ap (λ (x : ℕ). sum x f) (sym (pow-suc 2 n))

-- a number of k + k bits is its two halves
pub sum_halves : (k : ℕ) (f : ℕ → ℕ → ℕ) → sum (2 ^ k * 2 ^ k) (λ x. f (hi k x) (lo k x)) ≡ sum (2 ^ k) (λ a. sum (2 ^ k) (λ b. f a b))
unfolding hi lo
sum_halves k f =
    sum_split (2 ^ k) (2 ^ k) (λ x. f (hi k x) (lo k x))
    ∙ sum_ext (2 ^ k) _ _ (λ a l. sum_ext (2 ^ k) _ _ (λ b j.
    ap₂ f (ap (λ (x : ℕ). x % 2 ^ k) (high a k j) ∙ mod-eq_of_lt l) (low a k j)))

pub sum_hi : (k : ℕ) (g : ℕ → ℕ) → sum (2 ^ k * 2 ^ k) (λ x. g (hi k x)) ≡ 2 ^ k * sum (2 ^ k) g
sum_hi k g = sum_halves k (λ a b. g a) ∙ sum_by (2 ^ k) (2 ^ k) _ g (λ a. const (2 ^ k) (g a))

pub sum_lo : (k : ℕ) (g : ℕ → ℕ) → sum (2 ^ k * 2 ^ k) (λ x. g (lo k x)) ≡ 2 ^ k * sum (2 ^ k) g
sum_lo k g = sum_halves k (λ a b. g b) ∙ const (2 ^ k) (sum (2 ^ k) g)

-- over three numbers at once
abbrev pub sum3 : ℕ → (ℕ → ℕ → ℕ → ℕ) → ℕ
sum3 n g = sum n (λ x. sum n (λ y. sum n (λ z. g x y z)))
