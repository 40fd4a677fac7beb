-- The masked inversion answers the inverse under the mask S: one lemma for the fourteen and one for the eight, at both levels, from the field laws. Assumes nothing.
use mathlib.Core.Path.{◌≡◌, sym, ap, ap₂, ◌∙◌}
use Prim.Native.Nat.{ℕ, ◌<◌}
use lib.ListN.{get_or}
use Rattle.fips197.specs.Field.{◌⊕◌}
use Rattle.fips197.proofs.Xor.{sums}
use Rattle.tower.specs.Tower.{hi, lo, join, scaled_square, norm_over, inverse_over, exchange, pair_inverse, pair_product, nibble_product, nibble_inverse, byte_inverse}
use Rattle.points.specs.Points.{masked, fourteen, eight, point}
use Rattle.tower.specs.Claims.{FieldLaws}
use Rattle.tower.proofs.Split.{hi_xor, lo_xor, hi_lt, lo_lt, join_xor, halves}
use Rattle.tower.proofs.Level.{left_distributive, pair_level, nibble_level}

module _ (k : ℕ) (times : ℕ → ℕ → ℕ) (one : ℕ) (inv : ℕ → ℕ) (L : FieldLaws k times one inv) where
  distributive' : (x y z : ℕ) → times (x ⊕ y) z ≡ times x z ⊕ times y z
  distributive' = left_distributive k times one inv L

  pub fourteenth : (nu a m q : ℕ) → get_or (fourteen times nu (hi k a) (lo k a) (hi k m) (lo k m) q) 13 0 ≡ q ⊕ norm_over k times nu (a ⊕ m)
  unfolding fourteen norm_over scaled_square
  fourteenth nu a m q = simp (hi_xor, lo_xor, L.distributive, distributive', L.commutative, sums)

  pub eighth : (a m e t s : ℕ) → get_or (eight times a m e t s) 7 0 ≡ s ⊕ times (a ⊕ m) (e ⊕ t)
  unfolding eight
  eighth a m e t s = simp (L.distributive, distributive', sums)

pub exchange_xor : (x y : ℕ) → exchange (x ⊕ y) ≡ exchange x ⊕ exchange y
unfolding exchange
exchange_xor x y = ap₂ (join 1) (lo_xor 1 x y) (hi_xor 1 x y) ∙ sym (join_xor 1 (lo 1 x) (lo 1 y) (hi 1 x) (hi 1 y) (hi_lt 1 x) (hi_lt 1 y))

-- a masked value less its mask
pub off : (x m : ℕ) → x ⊕ m ⊕ m ≡ x
off x m = simp sums

off' : (x m : ℕ) → m ⊕ x ⊕ m ≡ x
off' x m = simp sums

-- the bare values on the way to the inverse of A
abbrev pub bare_b : ℕ → ℕ
bare_b A = norm_over 4 nibble_product 1 A

abbrev pub bare_c : ℕ → ℕ
bare_c A = norm_over 2 pair_product 2 (bare_b A)

module _ (A m q r t s : ℕ) where
  abbrev P : ℕ → ℕ
  P n = point n (A ⊕ m) m q r t s

  pub point14 : P 14 ≡ q ⊕ bare_b A
  unfolding masked
  point14 = fourteenth 4 nibble_product 0xf nibble_inverse nibble_level 1 (A ⊕ m) m q ∙ ap (λ (x : ℕ). q ⊕ norm_over 4 nibble_product 1 x) (off A m)

  less_q : P 14 ⊕ q ≡ bare_b A
  less_q = ap (λ (x : ℕ). x ⊕ q) point14 ∙ off' (bare_b A) q

  pub point28 : P 28 ≡ r ⊕ bare_c A
  unfolding masked
  point28 = fourteenth 2 pair_product 3 pair_inverse pair_level 2 (P 14) q r ∙ ap (λ (x : ℕ). r ⊕ norm_over 2 pair_product 2 x) less_q

  inverse_c : P 29 ⊕ P 30 ≡ exchange (bare_c A)
  unfolding masked
  inverse_c = ap (λ (x : ℕ). exchange x ⊕ exchange r) point28 ∙ sym (exchange_xor (r ⊕ bare_c A) r) ∙ ap exchange (off' (bare_c A) r)

  pub point38 : P 38 ≡ hi 2 t ⊕ pair_product (lo 2 (bare_b A)) (exchange (bare_c A))
  unfolding masked
  point38 = eighth 2 pair_product 3 pair_inverse pair_level (lo 2 (P 14)) (lo 2 q) (P 29) (P 30) (hi 2 t)
      ∙ ap₂ (λ (x y : ℕ). hi 2 t ⊕ pair_product x y) (sym (lo_xor 2 (P 14) q) ∙ ap (lo 2) less_q) inverse_c

  pub point46 : P 46 ≡ lo 2 t ⊕ pair_product (hi 2 (bare_b A)) (exchange (bare_c A))
  unfolding masked
  point46 = eighth 2 pair_product 3 pair_inverse pair_level (hi 2 (P 14)) (hi 2 q) (P 29) (P 30) (lo 2 t)
      ∙ ap₂ (λ (x y : ℕ). lo 2 t ⊕ pair_product x y) (sym (hi_xor 2 (P 14) q) ∙ ap (hi 2) less_q) inverse_c

  -- E, points 38 and 46 joined
  module _ (ht : t < 16) where
    pub masked_e : join 2 (P 38) (P 46) ≡ t ⊕ nibble_inverse (bare_b A)
    unfolding nibble_inverse inverse_over pair_inverse
    masked_e = ap₂ (join 2) point38 point46
        ∙ sym (join_xor 2 (hi 2 t) _ (lo 2 t) _ (lo_lt 2 t) (pair_level.bounded _ _))
        ∙ ap (λ (x : ℕ). x ⊕ nibble_inverse (bare_b A)) (halves 2 t ht)

    less_t : join 2 (P 38) (P 46) ⊕ t ≡ nibble_inverse (bare_b A)
    less_t = ap (λ (x : ℕ). x ⊕ t) masked_e ∙ off' (nibble_inverse (bare_b A)) t

    point54 : P 54 ≡ hi 4 s ⊕ nibble_product (lo 4 A) (nibble_inverse (bare_b A))
    unfolding masked
    point54 = eighth 4 nibble_product 0xf nibble_inverse nibble_level (lo 4 (A ⊕ m)) (lo 4 m) (join 2 (P 38) (P 46)) t (hi 4 s)
        ∙ ap₂ (λ (x y : ℕ). hi 4 s ⊕ nibble_product x y) (sym (lo_xor 4 (A ⊕ m) m) ∙ ap (lo 4) (off A m)) less_t

    point62 : P 62 ≡ lo 4 s ⊕ nibble_product (hi 4 A) (nibble_inverse (bare_b A))
    unfolding masked
    point62 = eighth 4 nibble_product 0xf nibble_inverse nibble_level (hi 4 (A ⊕ m)) (hi 4 m) (join 2 (P 38) (P 46)) t (lo 4 s)
        ∙ ap₂ (λ (x y : ℕ). lo 4 s ⊕ nibble_product x y) (sym (hi_xor 4 (A ⊕ m) m) ∙ ap (hi 4) (off A m)) less_t

    inverted : s < 256 → join 4 (P 54) (P 62) ≡ s ⊕ byte_inverse A
    unfolding byte_inverse inverse_over
    inverted hs = ap₂ (join 4) point54 point62
        ∙ sym (join_xor 4 (hi 4 s) _ (lo 4 s) _ (lo_lt 4 s) (nibble_level.bounded _ _))
        ∙ ap (λ (x : ℕ). x ⊕ byte_inverse A) (halves 4 s hs)

-- points 54 and 62 joined, less s, are the inverse of the masked byte plus its mask
pub inversion : (a m q r t s : ℕ) → t < 16 → s < 256 → join 4 (point 54 a m q r t s) (point 62 a m q r t s) ⊕ s ≡ byte_inverse (a ⊕ m)
inversion a m q r t s ht hs =
    ap (λ (x : ℕ). join 4 (point 54 x m q r t s) (point 62 x m q r t s) ⊕ s) (sym (off a m))
    ∙ ap (λ (x : ℕ). x ⊕ s) (inverted (a ⊕ m) m q r t s ht hs) ∙ off' (byte_inverse (a ⊕ m)) s
