-- Worked examples, P1 to P14: what the definitions compute, each beside what it must be.
use Rattle.std.specs.Prelude.{ℕ, ◌≡◌, List, [], ◌∷◌, map, get_or, take}
use Rattle.fips197.specs.Cipher.{sbox, inv_sbox}
use Rattle.tower.specs.Tower.{pair_product, nibble_inverse, to_tower, from_tower}
use Rattle.points.specs.Points.{record_points}
use Rattle.tower.specs.declared.Record.{Record}
use Rattle.sbox.specs.declared.Direction.TheVariants.{Encrypt}
use Rattle.sbox.specs.Sbox.{new_byte, new_mask}

-- P12 to P14: masked 11, mask 42, record 59 3c 01, encrypting
abbrev ρ : Record
ρ = record { qt = 0x59; s = 0x3c; r = 0x01 }

abbrev points : List ℕ
points = record_points (to_tower 0x11) (to_tower 0x42) ρ

abbrev point : ℕ → ℕ
point i = get_or points i 0

-- P1 to P14
abbrev pub table : List (List ℕ × List ℕ)
table =
    (pair_product 1 2 ∷ [], 3 ∷ [])
    ∷ (nibble_inverse 0x0 ∷ [], 0x0 ∷ [])
    ∷ (nibble_inverse 0x1 ∷ [], 0xc ∷ [])
    ∷ (to_tower 0x01 ∷ [], 0xff ∷ [])
    ∷ (to_tower 0x02 ∷ [], 0xa9 ∷ [])
    ∷ (to_tower 0x53 ∷ [], 0xed ∷ [])
    ∷ (to_tower 0xca ∷ [], 0xcb ∷ [])
    ∷ (from_tower 0xed ∷ [], 0x53 ∷ [])
    ∷ (sbox 0x00 ∷ [], 0x63 ∷ [])
    ∷ (sbox 0x53 ∷ [], 0xed ∷ [])
    ∷ (inv_sbox 0xed ∷ [], 0x53 ∷ [])
    ∷ (new_byte Encrypt 0x11 0x42 ρ ∷ new_mask Encrypt ρ ∷ [], 0xa0 ∷ 0x4d ∷ [])
    ∷ (take 14 points, 0xc ∷ 0xc ∷ 0xf ∷ 0x1 ∷ 0x5 ∷ 0x6 ∷ 0x9 ∷ 0xf ∷ 0x9 ∷ 0x8 ∷ 0xd ∷ 0xb ∷ 0x2 ∷ 0xd ∷ [])
    ∷ (point 27 ∷ point 37 ∷ point 45 ∷ point 53 ∷ point 61 ∷ [], 0x2 ∷ 0x2 ∷ 0x3 ∷ 0xf ∷ 0x7 ∷ [])
    ∷ []

-- in every row the two are equal
abbrev pub Examples : Type 0
Examples = map (λ row. row.0) table ≡ map (λ row. row.1) table
