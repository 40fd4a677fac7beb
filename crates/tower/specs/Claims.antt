-- What is claimed of the definitions of this crate. Each claim is proved in proofs/Claims.antt.
use Rattle.std.specs.Prelude.{◌≡◌, [], ◌∷◌, ℕ, ◌<◌, ◌≤◌, ◌^◌}
use Rattle.fips197.specs.Field.{◌⊕◌, ◌•◌}
use Rattle.tower.specs.Tower.{pair_product, pair_inverse, nibble_product, nibble_inverse, byte_product, byte_inverse, to_tower, from_tower, from_columns}
use Rattle.tower.specs.declared.Record.{Record}

-- The field laws of a level whose numbers have k bits.
pub record FieldLaws (k : ℕ) (times : ℕ → ℕ → ℕ) (one : ℕ) (inv : ℕ → ℕ) : Type 0 where
  pub bounded : (x y : ℕ) → times x y < 2 ^ k
  pub commutative : (x y : ℕ) → times x y ≡ times y x
  pub distributive : (x y z : ℕ) → times x (y ⊕ z) ≡ times x y ⊕ times x z
  pub associative : (x y z : ℕ) → times (times x y) z ≡ times x (times y z)
  pub neutral : (x : ℕ) → x < 2 ^ k → times one x ≡ x
  pub inverse : (x : ℕ) → 0 < x → x < 2 ^ k → times x (inv x) ≡ one
  pub inverse_of_zero : inv 0 ≡ 0

abbrev pub PairLaws : Type 0
PairLaws = FieldLaws 2 pair_product 0x3 pair_inverse

abbrev pub NibbleLaws : Type 0
NibbleLaws = FieldLaws 4 nibble_product 0xf nibble_inverse

abbrev pub ByteLaws : Type 0
ByteLaws = FieldLaws 8 byte_product 0xff byte_inverse

-- The elements of rule 1.1 in the AES field, each with what it must be.
abbrev W : ℕ
W = 0xbd

abbrev W² : ℕ
W² = 0xbc

abbrev Z : ℕ
Z = 0x5c

abbrev Z⁴ : ℕ
Z⁴ = 0x5d

abbrev Y : ℕ
Y = 0xff

abbrev Y¹⁶ : ℕ
Y¹⁶ = 0xfe

abbrev fourth : ℕ → ℕ
fourth x = x • x • (x • x)

-- conjugates are powers, each pair of them sums to one, the norms are one, n and N; and what the bits of a tower byte stand for are products of the basis elements
abbrev pub Elements : Type 0
Elements =
    (W • W ∷ fourth Z ∷ fourth (fourth Y) ∷ W ⊕ W² ∷ Z ⊕ Z⁴ ∷ Y ⊕ Y¹⁶ ∷ W • W² ∷ Z • Z⁴ ∷ Y • Y¹⁶ ∷ W • Z
    ∷ Y¹⁶ • Z⁴ • W² ∷ Y¹⁶ • Z⁴ • W ∷ Y¹⁶ • Z • W² ∷ Y¹⁶ • Z • W ∷ Y • Z⁴ • W² ∷ Y • Z⁴ • W ∷ Y • Z • W² ∷ Y • Z • W ∷ [])
    ≡ (W² ∷ Z⁴ ∷ Y¹⁶ ∷ 0x01 ∷ 0x01 ∷ 0x01 ∷ 0x01 ∷ 0xbc ∷ 0xec ∷ 0xec ∷ from_columns)

-- the two changes of basis are inverse
abbrev pub ChangesInverse : Type 0
ChangesInverse = (a : ℕ) → a < 256 → (from_tower (to_tower a) ≡ a) × (to_tower (from_tower a) ≡ a)

-- the tower is the AES field: the sum of two bytes is carried to the sum, and the product to the product
abbrev pub TowerIsField : Type 0
TowerIsField = (a b : ℕ) → a < 256 → b < 256 → (to_tower (a ⊕ b) ≡ to_tower a ⊕ to_tower b) × (to_tower (a • b) ≡ byte_product (to_tower a) (to_tower b))

-- a record of good form: bytes, the third at most 3
pub record Good (ρ : Record) : Type 0 where
  pub qt : ρ.qt < 256
  pub s : ρ.s < 256
  pub r : ρ.r ≤ 3
