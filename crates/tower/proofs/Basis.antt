-- The changes of basis are additive and inverse to each other, and carry the product of the AES field to the tower's. Assumes nothing.
use mathlib.Core.Path.{◌≡◌, refl, sym, ap, ap₂, ◌∙◌}
use mathlib.Core.List.{List, [], ◌∷◌}
use Prim.Native.Nat.{ℕ, ◌/◌, ◌%◌, ◌^◌, ◌<◌}
use mathlib.Core.Bool.{Bool, true, ◌&&◌}
use native.Mathlib.Nat.{mod-lt}
use lib.Dec.{T, ltb, ltb→lt, lit<}
use lib.ListN.{length}
use Rattle.fips197.specs.Field.{field, ◌⊕◌, ◌•◌}
use Rattle.fips197.proofs.Below.{eq1, eq2, both_left, both_right}
use Rattle.fips197.proofs.Xor.{self, swap4, lt, two_pos}
use Rattle.fips197.proofs.Additive.{Additive, agree, bit_times}
use Rattle.fips197.proofs.Field.{product_left, product_right, bit_times_lt}
use Rattle.tower.specs.Tower.{tower, added, from_columns, to_columns, from_tower, to_tower, byte_product, byte_inverse}
use Rattle.tower.specs.Claims.{ChangesInverse, TowerIsField}
use Rattle.tower.proofs.Level.{left_distributive, byte_level}

abbrev all_bytes : List ℕ → Bool
all_bytes [] = true
all_bytes (c ∷ cs) = ltb c 256 && all_bytes cs

pub added_additive : (cs : List ℕ) → Additive (added cs)
unfolding added
added_additive [] x y = sym (self 0)
added_additive (c ∷ cs) x y = ap₂ ◌⊕◌ (bit_times (length cs) c x y) (added_additive cs x y) ∙ swap4 _ _ _ _

pub to_additive : Additive to_tower
unfolding to_tower
to_additive = added_additive to_columns

pub from_additive : Additive from_tower
unfolding from_tower
from_additive = added_additive from_columns

-- a change of basis by bytes gives bytes, whatever number it is given
added_lt : (cs : List ℕ) → T (all_bytes cs) → (x : ℕ) → added cs x < 256
unfolding added
added_lt [] t x = lit< tt
added_lt (c ∷ cs) t x = lt 8 _ _ (bit_times_lt (x / 2 ^ length cs % 2) c (mod-lt _ two_pos) (ltb→lt c 256 (both_left (ltb c 256) (all_bytes cs) t))) (added_lt cs (both_right (ltb c 256) (all_bytes cs) t) x)

pub to_lt : (x : ℕ) → to_tower x < 256
unfolding to_tower
to_lt = added_lt to_columns tt

pub from_lt : (x : ℕ) → from_tower x < 256
unfolding from_tower
from_lt = added_lt from_columns tt

-- that the two are inverse, once over both tables: on the powers of two, and so everywhere
pub changes_inverse : ChangesInverse
unfolding tower field
changes_inverse a h = (
  agree (λ x. from_tower (to_tower x)) (λ x. x) (λ x y. ap from_tower (to_additive x y) ∙ from_additive (to_tower x) (to_tower y)) (λ x y. refl) 8
      (eq1 8 (λ i. from_tower (to_tower (2 ^ i))) (λ i. 2 ^ i) tt) a h,
  agree (λ x. to_tower (from_tower x)) (λ x. x) (λ x y. ap to_tower (from_additive x y) ∙ to_additive (from_tower x) (from_tower y)) (λ x y. refl) 8
      (eq1 8 (λ i. to_tower (from_tower (2 ^ i))) (λ i. 2 ^ i) tt) a h,
)

on_powers : (i j : ℕ) → i < 8 → j < 8 → to_tower (2 ^ i • 2 ^ j) ≡ byte_product (to_tower (2 ^ i)) (to_tower (2 ^ j))
unfolding tower field
on_powers = eq2 8 8 (λ i j. to_tower (2 ^ i • 2 ^ j)) (λ i j. byte_product (to_tower (2 ^ i)) (to_tower (2 ^ j))) tt

product_carried : (a b : ℕ) → a < 256 → b < 256 → to_tower (a • b) ≡ byte_product (to_tower a) (to_tower b)
product_carried a b ha hb =
    agree (λ a. to_tower (a • b)) (λ a. byte_product (to_tower a) (to_tower b))
    (λ x y. ap to_tower (product_left b x y) ∙ to_additive (x • b) (y • b))
    (λ x y. ap (λ (z : ℕ). byte_product z (to_tower b)) (to_additive x y) ∙ left_distributive 8 byte_product 0xff byte_inverse byte_level (to_tower x) (to_tower y) (to_tower b))
    8 (λ i l. agree (λ b. to_tower (2 ^ i • b)) (λ b. byte_product (to_tower (2 ^ i)) (to_tower b))
    (λ x y. ap to_tower (product_right (2 ^ i) x y) ∙ to_additive (2 ^ i • x) (2 ^ i • y))
    (λ x y. ap (byte_product (to_tower (2 ^ i))) (to_additive x y) ∙ byte_level.distributive (to_tower (2 ^ i)) (to_tower x) (to_tower y))
    8 (λ j k. on_powers i j l k) b hb) a ha

pub tower_is_field : TowerIsField
tower_is_field a b ha hb = (to_additive a b, product_carried a b ha hb)
