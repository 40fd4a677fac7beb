-- FIPS 197, section 4: bytes and their field, as definitions that compute. A byte is a number below 256.
use Rattle.std.specs.Prelude.{ℕ, zero, suc, ◌*◌, ◌/◌, ◌%◌}
use Rattle.std.specs.Int.Bits.{bit_xor}

-- 4.1 the sum of two bytes: their bits added modulo 2
infixl 68 ◌⊕◌
unfoldable pub ◌⊕◌ : ℕ → ℕ → ℕ
a ⊕ b = bit_xor a b

-- 4.2 times x, less the polynomial 11b (x^8 + x^4 + x^3 + x + 1) where x^8 appears
unfoldable pub xtime : ℕ → ℕ
xtime b = b * 2 ⊕ b / 128 % 2 * 0x11b

-- 4.2 the product of a by the n lowest bits of b: a, a times x, a times x twice, .., those of the set bits added
unfoldable pub times_bits : ℕ → ℕ → ℕ → ℕ
times_bits zero a b = 0
times_bits (suc n) a b = b % 2 * a ⊕ times_bits n (xtime a) (b / 2)

infixl 70 ◌•◌
unfoldable pub ◌•◌ : ℕ → ℕ → ℕ
a • b = times_bits 8 (a % 256) (b % 256)

-- 4.4 the multiplicative inverse, b^254, and 254 = 2 + 4 + 8 + 16 + 32 + 64 + 128; zero gives zero
unfoldable pub inverse : ℕ → ℕ
inverse b =
    let b2 = b • b in
    let b4 = b2 • b2 in
    let b8 = b4 • b4 in
    let b16 = b8 • b8 in
    let b32 = b16 • b16 in
    let b64 = b32 • b32 in
    let b128 = b64 • b64 in
    b2 • b4 • b8 • b16 • b32 • b64 • b128

-- one name that opens all of the above where a proof computes
unfoldable pub field : Unit {0}
unfolding ◌⊕◌ xtime times_bits ◌•◌ inverse
field = tt
