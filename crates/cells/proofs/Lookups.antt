-- What is read from a row is the tower's product or square: one computed test for each table. Assumes nothing.
use mathlib.Core.Path.{◌≡◌, refl, sym, ap, ap₂, ◌∙◌}
use mathlib.Core.Bool.{Bool}
use Prim.Native.Nat.{ℕ, ◌-◌, ◌*◌, ◌/◌, ◌%◌}
use native.Mathlib.Nat.{mod-lt, mod-mod, zero-lt-suc}
use lib.Pow.{mod-mod-pow}
use lib.Bits.{bit_xor}
use Rattle.fips197.specs.Field.{field}
use lib.Dec.{T, eqb}
use Rattle.fips197.proofs.Below.{allb, eq1, eq2}
use Rattle.tower.specs.Tower.{tower, join, scaled_square, exchange, bit_product, pair_product, nibble_product}
use Rattle.tower.proofs.Leaf.{hi_cut, lo_cut, product_cut}
use Rattle.cells.specs.Cells.{entry, RowOf}

entry_cut : (w y : ℕ) → entry w (y % 16) ≡ entry w y
unfolding entry
entry_cut w y = rw (mod-mod y 16) refl

-- the words that the code makes of the low bits of x; their constants come from the code, so that the test is of those
abbrev row_word : ℕ → ℕ → ℕ → ℕ → ℕ → ℕ
row_word k1 k2 k3 k4 v = bit_xor (bit_xor (bit_xor (v * 2 % 4 * k1) ((v % 4 - v % 2) * k2)) ((v % 8 - v % 4) * k3)) ((v - v % 8) * k4)

abbrev pair_row_word : ℕ → ℕ → ℕ → ℕ
pair_row_word k1 k2 v = bit_xor (v * 2 % 4 * k1) ((v - v % 2) * k2)

-- the first n rows hold what times gives
abbrev pub holds : (ℕ → ℕ) → (ℕ → ℕ → ℕ) → ℕ → Bool
holds word times n = allb n (λ v. allb 16 (λ w. eqb (entry (word v) w) (times v w)))

pub row_made : (k1 k2 k3 k4 : ℕ) → T (holds (row_word k1 k2 k3 k4) nibble_product 16) → (x : ℕ) → RowOf (nibble_product x) (row_word k1 k2 k3 k4 (x % 16))
unfolding nibble_product
row_made k1 k2 k3 k4 tested x y =
    sym (entry_cut (row_word k1 k2 k3 k4 (x % 16)) y)
    ∙ eq2 16 16 (λ v w. entry (row_word k1 k2 k3 k4 v) w) nibble_product tested (x % 16) (y % 16) (mod-lt x (zero-lt-suc 15)) (mod-lt y (zero-lt-suc 15)) ∙ product_cut 2 pair_product 2 x y

-- the products of pairs are tested for sixteen numbers, which are four pairs four times
pub pair_row_made : (k1 k2 : ℕ) → T (holds (pair_row_word k1 k2) pair_product 4) → (x : ℕ) → RowOf (pair_product x) (pair_row_word k1 k2 (x % 4))
unfolding pair_product
pair_row_made k1 k2 tested x y =
    sym (entry_cut (pair_row_word k1 k2 (x % 4)) y)
    ∙ eq2 4 16 (λ v w. entry (pair_row_word k1 k2 v) w) pair_product tested (x % 4) (y % 16) (mod-lt x (zero-lt-suc 3)) (mod-lt y (zero-lt-suc 15))
    ∙ sym (product_cut 1 bit_product 1 (x % 4) (y % 16)) ∙ ap₂ pair_product (mod-mod x 4) (mod-mod-pow y 2 2) ∙ product_cut 1 bit_product 1 x y

pub nibble_square_made : (x : ℕ) → entry 0x5b6c1f2a794e3d08 x ≡ scaled_square nibble_product 1 x
unfolding tower field entry
nibble_square_made x =
    sym (entry_cut 0x5b6c1f2a794e3d08 x) ∙ eq1 16 (entry 0x5b6c1f2a794e3d08) (scaled_square nibble_product 1) tt (x % 16) (mod-lt x (zero-lt-suc 15)) ∙ ap (nibble_product 1) (product_cut 2 pair_product 2 x x)

pub pair_square_made : (x : ℕ) → bit_xor (x % 4) (x % 4 / 2) ≡ scaled_square pair_product 2 x
unfolding tower field
pair_square_made x = eq1 4 (λ v. bit_xor v (v / 2)) (scaled_square pair_product 2) tt (x % 4) (mod-lt x (zero-lt-suc 3)) ∙ ap (pair_product 2) (product_cut 1 bit_product 1 x x)

pub exchange_made : (x : ℕ) → x % 4 * 5 / 2 % 4 ≡ exchange x
unfolding tower field
exchange_made x = eq1 4 (λ v. v * 5 / 2 % 4) exchange tt (x % 4) (mod-lt x (zero-lt-suc 3)) ∙ ap₂ (join 1) (lo_cut 1 x) (hi_cut 1 x)
