-- The field laws of the tower: one lemma from a level to the next, and from the bits up to pairs, nibbles and bytes. Assumes nothing.
use mathlib.Core.Path.{◌≡◌, refl, sym, ap, ap₂, ◌∙◌}
use Prim.Native.Nat.{ℕ, zero, suc, ◌+◌, ◌-◌, ◌*◌, ◌%◌, ◌^◌, ◌<◌}
use native.Mathlib.Nat.{mod-lt, not-suc-le-zero, one-mul, mul_comm, mul_assoc, mod-eq_of_lt}
use native.Mathlib.Omega.{arith}
use lib.Bits.{xor_mod}
use lib.Dec.{ltb, ltb→lt}
use Rattle.fips197.specs.Field.{◌⊕◌, field}
use Rattle.fips197.proofs.Below.{eq1, eq3, all_at, all_at2}
use Rattle.fips197.proofs.Xor.{sums, self, zero_r, lt, two_pos}
use Rattle.tower.specs.Tower.{tower, hi, lo, join, product_over, scaled_square, norm_over, inverse_over, bit_product, pair_product, pair_inverse, nibble_product, nibble_inverse, byte_product, byte_inverse}
use Rattle.tower.specs.Claims.{FieldLaws, PairLaws, NibbleLaws, ByteLaws}
use Rattle.tower.proofs.Split.{hi_xor, lo_xor, join_xor, hi_lt, lo_lt, join_lt, hi_join, lo_join, halves}

module _ (k : ℕ) (times : ℕ → ℕ → ℕ) (one : ℕ) (inv : ℕ → ℕ) (L : FieldLaws k times one inv) where
  pub left_distributive : (x y z : ℕ) → times (x ⊕ y) z ≡ times x z ⊕ times y z
  left_distributive x y z = L.commutative (x ⊕ y) z ∙ L.distributive z x y ∙ ap₂ ◌⊕◌ (L.commutative z x) (L.commutative z y)

  left_commutative : (x y z : ℕ) → times x (times y z) ≡ times y (times x z)
  left_commutative x y z = sym (L.associative x y z) ∙ ap (λ (w : ℕ). times w z) (L.commutative x y) ∙ L.associative y x z

  by_zero : (x : ℕ) → times x 0 ≡ 0
  by_zero x = ap (times x) (sym (self 0)) ∙ L.distributive x 0 0 ∙ self (times x 0)

  module _ (nu : ℕ) (one_lt : one < 2 ^ k) (norm_pos : (x : ℕ) → 0 < x → x < 2 ^ (k + k) → 0 < norm_over k times nu x) (zeros : inverse_over k times nu inv 0 ≡ 0) where
    part_lt : (a b c d : ℕ) → times a b ⊕ times c d < 2 ^ k
    part_lt a b c d = lt k (times a b) (times c d) (L.bounded a b) (L.bounded c d)

    norm_lt : (x : ℕ) → norm_over k times nu x < 2 ^ k
    unfolding norm_over scaled_square
    norm_lt x = part_lt _ _ _ _

    hi_product : (x y : ℕ) → hi k (product_over k times nu x y) ≡ times (hi k x) (hi k y) ⊕ times nu (times (hi k x ⊕ lo k x) (hi k y ⊕ lo k y))
    unfolding product_over
    hi_product x y = hi_join k _ _ (part_lt _ _ _ _) (part_lt _ _ _ _)

    lo_product : (x y : ℕ) → lo k (product_over k times nu x y) ≡ times (lo k x) (lo k y) ⊕ times nu (times (hi k x ⊕ lo k x) (hi k y ⊕ lo k y))
    unfolding product_over
    lo_product x y = lo_join k _ _ (part_lt _ _ _ _)

    mixed : ℕ → ℕ → ℕ
    mixed x y = times nu (times (hi k x ⊕ lo k x) (hi k y ⊕ lo k y))

    high_associates : (x y z : ℕ)
        → times (hi k (product_over k times nu x y)) (hi k z) ⊕ mixed (product_over k times nu x y) z ≡ times (hi k x) (hi k (product_over k times nu y z)) ⊕ mixed x (product_over k times nu y z)
    unfolding mixed
    high_associates x y z = simp (hi_product, lo_product, L.distributive, left_distributive, L.associative, L.commutative, left_commutative, sums)

    low_associates : (x y z : ℕ)
        → times (lo k (product_over k times nu x y)) (lo k z) ⊕ mixed (product_over k times nu x y) z ≡ times (lo k x) (lo k (product_over k times nu y z)) ⊕ mixed x (product_over k times nu y z)
    unfolding mixed
    low_associates x y z = simp (hi_product, lo_product, L.distributive, left_distributive, L.associative, L.commutative, left_commutative, sums)

    associates : (x y z : ℕ) → product_over k times nu (product_over k times nu x y) z ≡ product_over k times nu x (product_over k times nu y z)
    unfolding product_over mixed
    associates x y z = ap₂ (join k) (high_associates x y z) (low_associates x y z)

    -- both halves of x times its inverse are the norm times the inverse of the norm
    half : (x1 x0 b : ℕ) → times x1 (times x0 b) ⊕ times nu (times (x1 ⊕ x0) (times x0 b ⊕ times x1 b)) ≡ times (times x1 x0 ⊕ scaled_square times nu (x1 ⊕ x0)) b
    unfolding scaled_square
    half x1 x0 b = simp (L.distributive, left_distributive, L.associative, L.commutative, left_commutative, sums)

    half' : (x1 x0 b : ℕ) → times x0 (times x1 b) ⊕ times nu (times (x1 ⊕ x0) (times x0 b ⊕ times x1 b)) ≡ times (times x1 x0 ⊕ scaled_square times nu (x1 ⊕ x0)) b
    half' x1 x0 b = ap (λ (w : ℕ). w ⊕ times nu (times (x1 ⊕ x0) (times x0 b ⊕ times x1 b))) (left_commutative x0 x1 b) ∙ half x1 x0 b

    by_inverse : (x : ℕ) → 0 < x → x < 2 ^ (k + k) → product_over k times nu x (inverse_over k times nu inv x) ≡ join k one one
    unfolding product_over inverse_over norm_over
    by_inverse x p h =
        let b = inv (norm_over k times nu x) in
        let e1 : hi k (join k (times (lo k x) b) (times (hi k x) b)) ≡ times (lo k x) b = hi_join k _ _ (L.bounded _ _) (L.bounded _ _) in
        let e0 : lo k (join k (times (lo k x) b) (times (hi k x) b)) ≡ times (hi k x) b = lo_join k _ _ (L.bounded _ _) in
        let e : times (norm_over k times nu x) b ≡ one = L.inverse (norm_over k times nu x) (norm_pos x p h) (norm_lt x) in
        simp (e1, e0) (ap₂ (join k) (half (hi k x) (lo k x) b ∙ e) (half' (hi k x) (lo k x) b ∙ e))

    -- the halves of one are equal, so that their sum is zero and each half is multiplied by one
    by_one : (x : ℕ) → x < 2 ^ (k + k) → product_over k times nu (join k one one) x ≡ x
    unfolding product_over
    by_one x h =
        let nothing : (y : ℕ) → times (one ⊕ one) y ≡ 0 = λ y. ap (λ (z : ℕ). times z y) (self one) ∙ L.commutative 0 y ∙ by_zero y in
        simp (hi_join k one one one_lt one_lt, lo_join k one one one_lt, nothing, by_zero, L.neutral, hi_lt, lo_lt, zero_r) (halves k x h)

    pub up : FieldLaws (k + k) (product_over k times nu) (join k one one) (inverse_over k times nu inv)
    unfolding product_over
    up = record {
      bounded = λ x y. join_lt k _ _ (part_lt _ _ _ _) (part_lt _ _ _ _);
      commutative = λ x y. simp L.commutative;
      distributive = λ x y z. simp (hi_xor, lo_xor, L.distributive, join_xor, lt, L.bounded, sums);
      associative = associates;
      neutral = by_one;
      inverse = by_inverse;
      inverse_of_zero = zeros;
    }

bit_lt : (x y : ℕ) → x < 2 → y < 2 → x * y < 2
bit_lt x y h k = ltb→lt (x * y) 2 (all_at2 2 2 (λ x y. ltb (x * y) 2) tt x y h k)

bit_distributive : (x y z : ℕ) → x < 2 → y < 2 → z < 2 → x * ((y ⊕ z) % 2) ≡ x * y ⊕ x * z
unfolding field
bit_distributive = eq3 2 2 2 (λ x y z. x * ((y ⊕ z) % 2)) (λ x y z. x * y ⊕ x * z) tt

low : (x : ℕ) → x % 2 < 2
low x = mod-lt x two_pos

cut : (x y : ℕ) → x % 2 * (y % 2) % 2 ≡ x % 2 * (y % 2)
cut x y = mod-eq_of_lt (bit_lt (x % 2) (y % 2) (low x) (low y))

bit_laws : FieldLaws 1 bit_product 1 (λ x. x)
unfolding bit_product ◌⊕◌
bit_laws = record {
  bounded = λ x y. bit_lt (x % 2) (y % 2) (low x) (low y);
  commutative = λ x y. mul_comm (x % 2) (y % 2);
  distributive = λ x y z. ap (λ (n : ℕ). x % 2 * n) (xor_mod y z 1 ∙ sym (mod-eq_of_lt (lt 1 (y % 2) (z % 2) (low y) (low z)))) ∙ bit_distributive (x % 2) (y % 2) (z % 2) (low x) (low y) (low z);
  associative = λ x y z. ap (λ (n : ℕ). n * (z % 2)) (cut x y) ∙ mul_assoc (x % 2) (y % 2) (z % 2) ∙ ap (λ (n : ℕ). x % 2 * n) (sym (cut y z));
  neutral = λ x h. one-mul (x % 2) ∙ mod-eq_of_lt h;
  inverse = λ x p h. let e : x ≡ 1 = omega arith in ap (λ (n : ℕ). n % 2 * (n % 2)) e;
  inverse_of_zero = refl;
}

-- the norm of a number that is not zero is not zero: one computed test a level
positive : (n : ℕ) (f : ℕ → ℕ) → lib.Dec.T (Rattle.fips197.proofs.Below.allb (n - 1) (λ a. ltb 0 (f (suc a)))) → (x : ℕ) → 0 < x → x < n → 0 < f x
positive n f t zero p h = absurd (not-suc-le-zero p)
positive n f t (suc x) p h = ltb→lt 0 (f (suc x)) (all_at (n - 1) (λ a. ltb 0 (f (suc a))) t x (omega arith))

pairs : FieldLaws 2 pair_product 3 (inverse_over 1 bit_product 1 (λ x. x))
unfolding tower field
pairs = up 1 bit_product 1 (λ x. x) bit_laws 1 (omega arith) (positive 4 (norm_over 1 bit_product 1) tt) refl

-- inverting a pair exchanges its bits
exchanged : (x : ℕ) → x < 4 → inverse_over 1 bit_product 1 (λ x. x) x ≡ pair_inverse x
unfolding tower field
exchanged = eq1 4 (inverse_over 1 bit_product 1 (λ x. x)) pair_inverse tt

nibble_norm : (x : ℕ) → 0 < x → x < 16 → 0 < norm_over 2 pair_product 2 x
unfolding tower field
nibble_norm = positive 16 (norm_over 2 pair_product 2) tt

nibble_zero : inverse_over 2 pair_product 2 pair_inverse 0 ≡ 0
unfolding tower field
nibble_zero = refl

byte_norm : (x : ℕ) → 0 < x → x < 256 → 0 < norm_over 4 nibble_product 1 x
unfolding tower field
byte_norm = positive 256 (norm_over 4 nibble_product 1) tt

byte_zero : inverse_over 4 nibble_product 1 nibble_inverse 0 ≡ 0
unfolding tower field
byte_zero = refl

pub pair_level : PairLaws
unfolding tower
pair_level = record {
  bounded = pairs.bounded;
  commutative = pairs.commutative;
  distributive = pairs.distributive;
  associative = pairs.associative;
  neutral = pairs.neutral;
  inverse = λ x p h. ap (pair_product x) (sym (exchanged x h)) ∙ pairs.inverse x p h;
  inverse_of_zero = refl;
}

pub nibble_level : NibbleLaws
unfolding nibble_product nibble_inverse join
nibble_level = up 2 pair_product 3 pair_inverse pair_level 2 (omega arith) nibble_norm nibble_zero

pub byte_level : ByteLaws
unfolding byte_product byte_inverse join
byte_level = up 4 nibble_product 0xf nibble_inverse nibble_level 1 (omega arith) byte_norm byte_zero
