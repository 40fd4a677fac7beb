-- Two additive maps that agree on the powers of two below 2 ^ k agree below 2 ^ k. Assumes nothing.
use mathlib.Core.Path.{◌≡◌, sym, ap, ap₂, ◌∙◌, subst}
use Prim.Native.Nat.{ℕ, zero, suc, ◌*◌, ◌/◌, ◌%◌, ◌^◌, ◌<◌}
use native.Mathlib.Nat.{le_refl, le_trans, le-suc, mod-lt, zero-mul, one-mul}
use native.Mathlib.Omega.{arith}
use lib.Bits.{xor_shifted, xor_mod, xor_shr}
use lib.Dec.{T, eqb}
use lib.Pow.{split, pow_pos, shr_lt}
use Rattle.fips197.specs.Field.{◌⊕◌}
use Rattle.fips197.proofs.Below.{allb, eq1}
use Rattle.fips197.proofs.Xor.{two_pos, self, cancel, zero_r}

abbrev pub Additive : (ℕ → ℕ) → Type 0
Additive f = (x y : ℕ) → f (x ⊕ y) ≡ f x ⊕ f y

pub at_zero : (f : ℕ → ℕ) → Additive f → f 0 ≡ 0
at_zero f a = sym (cancel (f 0) (f 0)) ∙ ap (λ (x : ℕ). f 0 ⊕ x) (sym (a 0 0) ∙ ap f (zero_r 0)) ∙ self (f 0)

xor_parts : (x k : ℕ) → x / 2 ^ k * 2 ^ k ⊕ x % 2 ^ k ≡ x
unfolding ◌⊕◌
xor_parts x k = xor_shifted (x / 2 ^ k) k (x % 2 ^ k) (mod-lt x (pow_pos k)) ∙ split x k

module _ (f g : ℕ → ℕ) (af : Additive f) (ag : Additive g) where
  top : (k b : ℕ) → b < 2 → f (2 ^ k) ≡ g (2 ^ k) → f (b * 2 ^ k) ≡ g (b * 2 ^ k)
  top k zero h e = ap f (zero-mul (2 ^ k)) ∙ at_zero f af ∙ sym (at_zero g ag) ∙ ap g (sym (zero-mul (2 ^ k)))
  top k (suc zero) h e = ap f (one-mul (2 ^ k)) ∙ e ∙ ap g (sym (one-mul (2 ^ k)))
  top k (suc (suc b)) h e = absurd (omega arith)

  pub agree : (k : ℕ) → ((i : ℕ) → i < k → f (2 ^ i) ≡ g (2 ^ i)) → (x : ℕ) → x < 2 ^ k → f x ≡ g x
  agree zero e x h = let z : x ≡ 0 = omega arith in ap f z ∙ at_zero f af ∙ sym (at_zero g ag) ∙ ap g (sym z)
  agree (suc k) e x h =
      let p : x / 2 ^ k * 2 ^ k ⊕ x % 2 ^ k ≡ x = xor_parts x k in
      ap f (sym p) ∙ af _ _
      ∙ ap₂ ◌⊕◌ (top k (x / 2 ^ k) (shr_lt 1 k (subst (λ (n : ℕ). x < 2 ^ n) (omega arith) h)) (e k (le_refl (suc k))))
      (agree k (λ i l. e i (le_trans l (le-suc k))) (x % 2 ^ k) (mod-lt x (pow_pos k)))
      ∙ sym (ag _ _) ∙ ap g p

  -- bytes: eight computed tests
  pub agree_on_bytes : T (allb 8 (λ i. eqb (f (2 ^ i)) (g (2 ^ i)))) → (x : ℕ) → x < 256 → f x ≡ g x
  agree_on_bytes t = agree 8 (eq1 8 (λ i. f (2 ^ i)) (λ i. g (2 ^ i)) t)

-- a bit times a number is additive in the bit, and in the number
bit_by : (c d a : ℕ) → c < 2 → d < 2 → (c ⊕ d) * a ≡ c * a ⊕ d * a
unfolding ◌⊕◌
bit_by zero d a hc hd = sym (ap (λ (x : ℕ). x ⊕ d * a) (zero-mul a))
bit_by (suc zero) zero a hc hd = sym (ap (λ (x : ℕ). 1 * a ⊕ x) (zero-mul a) ∙ zero_r (1 * a))
bit_by (suc zero) (suc zero) a hc hd = zero-mul a ∙ sym (self (1 * a))
bit_by (suc zero) (suc (suc d)) a hc hd = absurd (omega arith)
bit_by (suc (suc c)) d a hc hd = absurd (omega arith)

pub low_bit : (x y a : ℕ) → (x ⊕ y) % 2 * a ≡ x % 2 * a ⊕ y % 2 * a
unfolding ◌⊕◌
low_bit x y a = ap (λ (n : ℕ). n * a) (xor_mod x y 1) ∙ bit_by (x % 2) (y % 2) a (mod-lt x two_pos) (mod-lt y two_pos)

-- bit j of a number, times a
pub bit_times : (j a : ℕ) → Additive (λ x. x / 2 ^ j % 2 * a)
unfolding ◌⊕◌
bit_times j a x y = ap (λ (n : ℕ). n % 2 * a) (xor_shr x y j) ∙ low_bit (x / 2 ^ j) (y / 2 ^ j) a

pub by_bit : (c a b : ℕ) → c < 2 → c * (a ⊕ b) ≡ c * a ⊕ c * b
by_bit zero a b h = zero-mul (a ⊕ b) ∙ sym (self 0) ∙ ap₂ ◌⊕◌ (sym (zero-mul a)) (sym (zero-mul b))
by_bit (suc zero) a b h = one-mul (a ⊕ b) ∙ ap₂ ◌⊕◌ (sym (one-mul a)) (sym (one-mul b))
by_bit (suc (suc c)) a b h = absurd (omega arith)
