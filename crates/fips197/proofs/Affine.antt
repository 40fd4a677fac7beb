-- The affine step and its inverse undo each other, and their linear parts are additive; so the S-box is a permutation of the bytes. Assumes nothing.
use mathlib.Core.Path.{◌≡◌, refl, sym, ap, ap₂, ◌∙◌, fun_ext}
use Prim.Native.Nat.{ℕ, ◌+◌, ◌*◌, ◌/◌, ◌%◌, ◌^◌, ◌<◌}
use native.Mathlib.Nat.{add-zero}
use lib.Bits.{xor_mod, xor_shr, xor_block}
use lib.Pow.{pow_pos}
use lib.Dec.{ltb, ltb→lt}
use Rattle.fips197.specs.Field.{field, ◌⊕◌, inverse}
use Rattle.fips197.specs.Cipher.{fips, bit, byte, linear, affine, sbox, inv_linear, inv_affine, inv_sbox}
use Rattle.fips197.specs.Claims.{SboxPermutes}
use Rattle.fips197.proofs.Below.{all_at}
use Rattle.fips197.proofs.Xor.{sums}
use Rattle.fips197.proofs.Additive.{Additive, agree_on_bytes}
use Rattle.fips197.proofs.Inverse.{inverse_lt, twice_inverse}

bit_xor : (i x y : ℕ) → bit (x ⊕ y) i ≡ bit x i ⊕ bit y i
unfolding bit ◌⊕◌
bit_xor i x y = ap (λ (n : ℕ). n % 2) (xor_shr x y i) ∙ xor_mod (x / 2 ^ i) (y / 2 ^ i) 1

shift_xor : (k x y : ℕ) → (x ⊕ y) * 2 ^ k ≡ x * 2 ^ k ⊕ y * 2 ^ k
unfolding ◌⊕◌
shift_xor k x y = sym (ap₂ ◌⊕◌ (sym (add-zero (x * 2 ^ k))) (sym (add-zero (y * 2 ^ k))) ∙ xor_block k x y 0 0 (pow_pos k) (pow_pos k) ∙ add-zero _)

byte_xor : (f g : ℕ → ℕ) → byte (λ i. f i ⊕ g i) ≡ byte f ⊕ byte g
unfolding byte
byte_xor f g = simp (shift_xor 1, shift_xor 2, shift_xor 3, shift_xor 4, shift_xor 5, shift_xor 6, shift_xor 7, sums)

pub linear_additive : Additive linear
unfolding linear
linear_additive x y =
    ap byte (fun_ext (λ i. simp (bit_xor, sums)))
    ∙ byte_xor
    (λ i. bit x i ⊕ bit x ((i + 4) % 8) ⊕ bit x ((i + 5) % 8) ⊕ bit x ((i + 6) % 8) ⊕ bit x ((i + 7) % 8))
    (λ i. bit y i ⊕ bit y ((i + 4) % 8) ⊕ bit y ((i + 5) % 8) ⊕ bit y ((i + 6) % 8) ⊕ bit y ((i + 7) % 8))

pub inv_linear_additive : Additive inv_linear
unfolding inv_linear
inv_linear_additive x y =
    ap byte (fun_ext (λ i. simp (bit_xor, sums)))
    ∙ byte_xor (λ i. bit x ((i + 2) % 8) ⊕ bit x ((i + 5) % 8) ⊕ bit x ((i + 7) % 8)) (λ i. bit y ((i + 2) % 8) ⊕ bit y ((i + 5) % 8) ⊕ bit y ((i + 7) % 8))

-- the linear parts undo each other: on the powers of two, and so everywhere
linear_off : (b : ℕ) → b < 256 → inv_linear (linear b) ≡ b
unfolding fips field
linear_off =
    agree_on_bytes (λ b. inv_linear (linear b)) (λ b. b) (λ x y. ap inv_linear (linear_additive x y) ∙ inv_linear_additive (linear x) (linear y)) (λ x y. refl) tt

linear_on : (b : ℕ) → b < 256 → linear (inv_linear b) ≡ b
unfolding fips field
linear_on =
    agree_on_bytes (λ b. linear (inv_linear b)) (λ b. b) (λ x y. ap linear (inv_linear_additive x y) ∙ linear_additive (inv_linear x) (inv_linear y)) (λ x y. refl) tt

constants : (inv_linear 0x63 ≡ 0x05) × (linear 0x05 ≡ 0x63)
unfolding fips field
constants = (refl, refl)

pub affine_off : (b : ℕ) → b < 256 → inv_affine (affine b) ≡ b
unfolding affine inv_affine
affine_off b h = rw (inv_linear_additive (linear b) 0x63, constants.0, linear_off b h) (simp sums)

pub affine_on : (b : ℕ) → b < 256 → affine (inv_affine b) ≡ b
unfolding affine inv_affine
affine_on b h = rw (linear_additive (inv_linear b) 0x05, constants.1, linear_on b h) (simp sums)

-- computed over all bytes
pub inv_affine_lt : (b : ℕ) → b < 256 → inv_affine b < 256
unfolding fips field
inv_affine_lt b h = ltb→lt (inv_affine b) 256 (all_at 256 (λ b. ltb (inv_affine b) 256) tt b h)

pub affine_lt : (b : ℕ) → b < 256 → affine b < 256
unfolding fips field
affine_lt b h = ltb→lt (affine b) 256 (all_at 256 (λ b. ltb (affine b) 256) tt b h)

pub sbox_permutes : SboxPermutes
unfolding sbox inv_sbox
sbox_permutes b h = (
  ap inverse (affine_off (inverse b) (inverse_lt b)) ∙ twice_inverse b h,
  ap affine (twice_inverse (inv_affine b) (inv_affine_lt b h)) ∙ affine_on b h,
)
