-- Chapter 1 of the rules, the tower: pairs, nibbles and tower bytes, their products and inverses, and the two changes of basis.
-- A pair is a number below 4, a nibble below 16, a tower byte below 256; of a larger number an operation sees the low bits alone.
use Rattle.std.specs.Prelude.{ℕ, ◌+◌, ◌*◌, ◌/◌, ◌%◌, ◌^◌, List, [], ◌∷◌, length}
use Rattle.fips197.specs.Field.{◌⊕◌}

-- the halves, high and low, of a number of k + k bits; the number of two halves, high first
unfoldable pub hi : ℕ → ℕ → ℕ
hi k x = x / 2 ^ k % 2 ^ k

unfoldable pub lo : ℕ → ℕ → ℕ
lo k x = x % 2 ^ k

unfoldable pub join : ℕ → ℕ → ℕ → ℕ
join k h l = h * 2 ^ k + l

-- One level of the tower: x1 and x0 are the halves of x, `times` is the product of halves, nu the product of the two basis elements, which sum to one.
-- With z = nu(x1+x0)(y1+y0), the product has high half x1·y1 + z and low half x0·y0 + z.
unfoldable pub product_over : ℕ → (ℕ → ℕ → ℕ) → ℕ → ℕ → ℕ → ℕ
product_over k times nu x y =
    let z = times nu (times (hi k x ⊕ lo k x) (hi k y ⊕ lo k y)) in
    join k (times (hi k x) (hi k y) ⊕ z) (times (lo k x) (lo k y) ⊕ z)

-- nu times the square
unfoldable pub scaled_square : (ℕ → ℕ → ℕ) → ℕ → ℕ → ℕ
scaled_square times nu x = times nu (times x x)

-- B = x1·x0 + nu(x1+x0)^2
unfoldable pub norm_over : ℕ → (ℕ → ℕ → ℕ) → ℕ → ℕ → ℕ
norm_over k times nu x = times (hi k x) (lo k x) ⊕ scaled_square times nu (hi k x ⊕ lo k x)

-- the inverse has high half x0·B^-1, low half x1·B^-1; `under` is the inverse of halves
unfoldable pub inverse_over : ℕ → (ℕ → ℕ → ℕ) → ℕ → (ℕ → ℕ) → ℕ → ℕ
inverse_over k times nu under x =
    let b = under (norm_over k times nu x) in
    join k (times (lo k x) b) (times (hi k x) b)

-- a pair is h·W^2 + l·W, and W^2·W is one; squaring and inverting a pair both exchange its bits
unfoldable pub bit_product : ℕ → ℕ → ℕ
bit_product x y = x % 2 * (y % 2)

unfoldable pub pair_product : ℕ → ℕ → ℕ
pair_product = product_over 1 bit_product 1

unfoldable pub exchange : ℕ → ℕ
exchange x = join 1 (lo 1 x) (hi 1 x)

unfoldable pub pair_inverse : ℕ → ℕ
pair_inverse = exchange

-- a nibble is x1·Z^4 + x0·Z, and n, the product of Z and Z^4, is W^2: the pair 2
unfoldable pub nibble_product : ℕ → ℕ → ℕ
nibble_product = product_over 2 pair_product 2

unfoldable pub nibble_inverse : ℕ → ℕ
nibble_inverse = inverse_over 2 pair_product 2 pair_inverse

-- a tower byte is A1·Y^16 + A0-as-Y, and N, the product of Y and Y^16, is W-as-Z: the nibble 1
unfoldable pub byte_product : ℕ → ℕ → ℕ
byte_product = product_over 4 nibble_product 1

unfoldable pub byte_inverse : ℕ → ℕ
byte_inverse = inverse_over 4 nibble_product 1 nibble_inverse

-- a change of basis: the bytes that the set bits stand for, bit 7's first, added
unfoldable pub added : List ℕ → ℕ → ℕ
added [] x = 0
added (c ∷ cs) x = x / 2 ^ length cs % 2 * c ⊕ added cs x

abbrev pub from_columns : List ℕ
from_columns = 0x64 ∷ 0x78 ∷ 0x6e ∷ 0x8c ∷ 0x68 ∷ 0x29 ∷ 0xde ∷ 0x60 ∷ []

abbrev pub to_columns : List ℕ
to_columns = 0x98 ∷ 0xf3 ∷ 0xf2 ∷ 0x48 ∷ 0x09 ∷ 0x81 ∷ 0xa9 ∷ 0xff ∷ []

-- tower to AES, and AES to tower
unfoldable pub from_tower : ℕ → ℕ
from_tower = added from_columns

unfoldable pub to_tower : ℕ → ℕ
to_tower = added to_columns

-- one name that opens all of the above where a proof computes
unfoldable pub tower : Unit {0}
unfolding hi lo join product_over scaled_square norm_over inverse_over bit_product pair_product exchange pair_inverse nibble_product nibble_inverse byte_product byte_inverse added from_tower to_tower
tower = tt
