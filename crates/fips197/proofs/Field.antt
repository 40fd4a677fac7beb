-- The product is additive in each operand and below 256, from the laws of the sum. Assumes nothing.
use mathlib.Core.Path.{◌≡◌, sym, ap, ap₂, ◌∙◌}
use Prim.Native.Nat.{ℕ, zero, suc, ◌*◌, ◌/◌, ◌%◌, ◌<◌}
use native.Mathlib.Nat.{mod-lt, zero-lt-suc, add-zero}
use native.Mathlib.Omega.{arith}
use lib.Bits.{bit_xor, xor_mod, xor_block}
use lib.Dec.{ltb, ltb→lt}
use Rattle.fips197.specs.Field.{field, ◌⊕◌, xtime, times_bits, ◌•◌}
use Rattle.fips197.proofs.Below.{all_at}
use Rattle.fips197.proofs.Xor.{two_pos, lt, self, swap4, half_xor}
use Rattle.fips197.proofs.Additive.{Additive, low_bit, bit_times, by_bit}

double : (a b : ℕ) → (a ⊕ b) * 2 ≡ a * 2 ⊕ b * 2
unfolding ◌⊕◌
double a b = sym (add-zero _) ∙ sym (xor_block 1 a b 0 0 two_pos two_pos) ∙ ap₂ bit_xor (add-zero (a * 2)) (add-zero (b * 2))

pub xtime_additive : Additive xtime
unfolding xtime
xtime_additive a b = ap₂ ◌⊕◌ (double a b) (bit_times 7 0x11b a b) ∙ swap4 _ _ _ _

bits_right : (n a : ℕ) → Additive (times_bits n a)
unfolding times_bits
bits_right zero a x y = sym (self 0)
bits_right (suc n) a x y =
    ap₂ ◌⊕◌ (low_bit x y a) (ap (times_bits n (xtime a)) (half_xor x y) ∙ bits_right n (xtime a) (x / 2) (y / 2)) ∙ swap4 _ _ _ _

bits_left : (n b : ℕ) → Additive (λ a. times_bits n a b)
unfolding times_bits
bits_left zero b x y = sym (self 0)
bits_left (suc n) b x y =
    ap₂ ◌⊕◌ (by_bit (b % 2) x y (mod-lt b two_pos)) (ap (λ (a : ℕ). times_bits n a (b / 2)) (xtime_additive x y) ∙ bits_left n (b / 2) (xtime x) (xtime y))
    ∙ swap4 _ _ _ _

cut : (x y : ℕ) → (x ⊕ y) % 256 ≡ x % 256 ⊕ y % 256
unfolding ◌⊕◌
cut x y = xor_mod x y 8

pub product_right : (a : ℕ) → Additive (λ b. a • b)
unfolding ◌•◌
product_right a x y = ap (times_bits 8 (a % 256)) (cut x y) ∙ bits_right 8 (a % 256) (x % 256) (y % 256)

pub product_left : (b : ℕ) → Additive (λ a. a • b)
unfolding ◌•◌
product_left b x y = ap (λ (a : ℕ). times_bits 8 a (b % 256)) (cut x y) ∙ bits_left 8 (b % 256) (x % 256) (y % 256)

pub xtime_lt : (a : ℕ) → a < 256 → xtime a < 256
unfolding field
xtime_lt a h = ltb→lt (xtime a) 256 (all_at 256 (λ a. ltb (xtime a) 256) tt a h)

pub bit_times_lt : (c a : ℕ) → c < 2 → a < 256 → c * a < 256
bit_times_lt zero a h l = omega arith
bit_times_lt (suc zero) a h l = omega arith
bit_times_lt (suc (suc c)) a h l = absurd (omega arith)

bits_lt : (n a b : ℕ) → a < 256 → times_bits n a b < 256
unfolding times_bits
bits_lt zero a b h = zero-lt-suc 255
bits_lt (suc n) a b h = lt 8 _ _ (bit_times_lt (b % 2) a (mod-lt b two_pos) h) (bits_lt n (xtime a) (b / 2) (xtime_lt a h))

pub product_lt : (a b : ℕ) → a • b < 256
unfolding ◌•◌
product_lt a b = bits_lt 8 (a % 256) (b % 256) (mod-lt a (zero-lt-suc 255))
