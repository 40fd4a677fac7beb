-- The linear parts as the code turns a byte, by one computed test each. Assumes nothing.
use mathlib.Core.Path.{◌≡◌}
use Prim.Native.Nat.{ℕ, ◌*◌, ◌/◌, ◌%◌, ◌<◌}
use lib.Bits.{bit_xor, bit_or}
use Rattle.fips197.specs.Field.{field}
use Rattle.fips197.specs.Cipher.{fips, linear, inv_linear}
use Rattle.fips197.proofs.Below.{eq1}

-- a byte turned left by k places, p being 2 ^ k and q 2 ^ (8 - k)
abbrev turned : ℕ → ℕ → ℕ → ℕ
turned p q x = bit_or (x * p % 256) (x / q)

-- the turns by one to four places, each sum turned on by one
abbrev summed : ℕ → ℕ → ℕ
summed x y = bit_xor x (turned 2 128 y)

pub linear_made : (x : ℕ) → x < 256 → summed x (summed x (summed x (summed x x))) ≡ linear x
unfolding fips field
linear_made = eq1 256 (λ x. summed x (summed x (summed x (summed x x)))) linear tt

pub inverse_linear_made : (x : ℕ) → x < 256 → turned 2 128 (bit_xor x (turned 4 64 (bit_xor x (turned 8 32 x)))) ≡ inv_linear x
unfolding fips field
inverse_linear_made = eq1 256 (λ x. turned 2 128 (bit_xor x (turned 4 64 (bit_xor x (turned 8 32 x))))) inv_linear tt
