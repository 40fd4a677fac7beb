-- How often a point of the fourteen or of the eight has a value, over the three masks of that stage: one law for nibbles and pairs, and for any product. Assumes nothing.
use mathlib.Core.Path.{◌≡◌, sym, ap, ap₂, ◌∙◌}
use mathlib.Core.List.{List, [], ◌∷◌}
use Prim.Native.Nat.{ℕ, ◌*◌, ◌^◌, ◌<◌}
use lib.ListN.{get_or}
use lib.Pow.{pow_pos}
use Rattle.fips197.specs.Field.{◌⊕◌, field}
use Rattle.fips197.proofs.Below.{eq1, Each, Each.none, Each.◌▸◌}
use Rattle.fips197.proofs.Xor.{comm, zero_r, sums, lt}
use Rattle.tower.specs.Tower.{tower, scaled_square, pair_product, pair_inverse, nibble_product, nibble_inverse}
use Rattle.points.specs.Points.{fourteen, eight}
use Rattle.tower.specs.Claims.{FieldLaws}
use Rattle.tower.proofs.Level.{pair_level, nibble_level}
use Rattle.counting.proofs.Sum.{sum3}
use Rattle.counting.proofs.Permute.{is, Permutes, identical, tested}
use Rattle.counting.proofs.Shapes.{even, of_products, Rows, rows_of, prods, begun, added, runs, lines}

-- the counts of the fourteen and of the eight: p for a product, u for any other
abbrev pub fourteen_counts : ℕ → ℕ → List ℕ
fourteen_counts u p = u ∷ u ∷ u ∷ u ∷ p ∷ p ∷ p ∷ p ∷ u ∷ u ∷ u ∷ u ∷ u ∷ u ∷ []

abbrev pub eight_counts : ℕ → ℕ → List ℕ
eight_counts u p = p ∷ p ∷ p ∷ p ∷ u ∷ u ∷ u ∷ u ∷ []

module _ (k : ℕ) (times : ℕ → ℕ → ℕ) (unit : ℕ) (inv : ℕ → ℕ) (L : FieldLaws k times unit inv) (R : Rows (2 ^ k) times inv) (v a b : ℕ) (ha : a < 2 ^ k) (hb : b < 2 ^ k) where
  abbrev n : ℕ
  n = 2 ^ k

  zero_lt : 0 < n
  zero_lt = pow_pos k

  module _ (nu : ℕ) (root : ℕ → ℕ) (P : Permutes (2 ^ k) (scaled_square times nu) root) where
    abbrev at14 : ℕ → ℕ → ℕ → ℕ → ℕ
    at14 j x y z = get_or (fourteen times nu (a ⊕ x) (b ⊕ y) x y z) j 0

    pub fourteen_counted : Each (λ j. sum3 n (λ x y z. is (at14 j x y z) v) ≡ get_or (fourteen_counts (n * (n * even k v)) (n * of_products k v)) j 0) 14
    unfolding fourteen scaled_square
    fourteen_counted =
        let r9 = begun k v _ (λ x y. L.bounded nu (times (a ⊕ x ⊕ (b ⊕ y)) (a ⊕ x ⊕ (b ⊕ y)))) in
        let r10 = added k v r9 _ (λ x y. L.bounded nu (times (x ⊕ y) (x ⊕ y))) in
        let r11 = added k v r10 _ (λ x y. L.bounded (a ⊕ x) (b ⊕ y)) in
        let r12 = added k v r11 _ (λ x y. L.bounded (a ⊕ x) y) in
        let r13 = added k v r12 _ (λ x y. L.bounded (b ⊕ y) x) in
        let r14 = added k v r13 _ (λ x y. L.bounded x y) in
        none
        ▸ lines k v (λ y. y) (λ y. y) (identical n) (at14 0) (λ x. a ⊕ b ⊕ x) (λ x l. search lt) (λ x y z. simp sums)
        ▸ lines k v (scaled_square times nu) root P (at14 1) (λ x. a ⊕ b ⊕ x) (λ x l. search lt) (λ x y z. simp sums)
        ▸ lines k v (λ y. y) (λ y. y) (identical n) (at14 2) (λ x. x) (λ x l. l) (λ x y z. comm x y)
        ▸ lines k v (scaled_square times nu) root P (at14 3) (λ x. x) (λ x l. l) (λ x y z. ap (scaled_square times nu) (comm x y))
        ▸ prods k v times inv R (at14 4) a b ha hb (λ x y z. ap₂ times (comm a x) (comm b y))
        ▸ prods k v times inv R (at14 5) a 0 ha zero_lt (λ x y z. ap₂ times (comm a x) (sym (zero_r y)))
        ▸ prods k v times inv R (at14 6) 0 b zero_lt hb (λ x y z. L.commutative (b ⊕ y) x ∙ ap₂ times (sym (zero_r x)) (comm b y))
        ▸ prods k v times inv R (at14 7) 0 0 zero_lt zero_lt (λ x y z. ap₂ times (sym (zero_r x)) (sym (zero_r y)))
        ▸ runs k v r9
        ▸ runs k v r10
        ▸ runs k v r11
        ▸ runs k v r12
        ▸ runs k v r13
        ▸ runs k v r14

  abbrev at8 : ℕ → ℕ → ℕ → ℕ → ℕ
  at8 j x y z = get_or (eight times (a ⊕ x) x (b ⊕ y) y z) j 0

  pub eight_counted : Each (λ j. sum3 n (λ x y z. is (at8 j x y z) v) ≡ get_or (eight_counts (n * (n * even k v)) (n * of_products k v)) j 0) 8
  unfolding eight
  eight_counted =
      let r5 = begun k v _ (λ x y. L.bounded (a ⊕ x) (b ⊕ y)) in
      let r6 = added k v r5 _ (λ x y. L.bounded (a ⊕ x) y) in
      let r7 = added k v r6 _ (λ x y. L.bounded x (b ⊕ y)) in
      let r8 = added k v r7 _ (λ x y. L.bounded x y) in
      none
      ▸ prods k v times inv R (at8 0) a b ha hb (λ x y z. ap₂ times (comm a x) (comm b y))
      ▸ prods k v times inv R (at8 1) a 0 ha zero_lt (λ x y z. ap₂ times (comm a x) (sym (zero_r y)))
      ▸ prods k v times inv R (at8 2) 0 b zero_lt hb (λ x y z. ap₂ times (sym (zero_r x)) (comm b y))
      ▸ prods k v times inv R (at8 3) 0 0 zero_lt zero_lt (λ x y z. ap₂ times (sym (zero_r x)) (sym (zero_r y)))
      ▸ runs k v r5
      ▸ runs k v r6
      ▸ runs k v r7
      ▸ runs k v r8

-- ---- the tower's two tables: their rows, and what undoes the scaled square, by a computed test each

pub nibble_rows : Rows 16 nibble_product nibble_inverse
nibble_rows = rows_of 4 nibble_product 0xf nibble_inverse nibble_level

pub pair_rows : Rows 4 pair_product pair_inverse
pair_rows = rows_of 2 pair_product 3 pair_inverse pair_level

abbrev pub nibble_root : ℕ → ℕ
nibble_root y = get_or (0 ∷ 15 ∷ 10 ∷ 5 ∷ 8 ∷ 7 ∷ 2 ∷ 13 ∷ 4 ∷ 11 ∷ 14 ∷ 1 ∷ 12 ∷ 3 ∷ 6 ∷ 9 ∷ []) y 0

abbrev pub pair_root : ℕ → ℕ
pair_root y = get_or (0 ∷ 1 ∷ 3 ∷ 2 ∷ []) y 0

pub nibble_square : Permutes 16 (scaled_square nibble_product 1) nibble_root
unfolding tower field
nibble_square = tested 16 (scaled_square nibble_product 1) nibble_root tt tt (eq1 16 (λ x. nibble_root (scaled_square nibble_product 1 x)) (λ x. x) tt) (eq1 16 (λ x. scaled_square nibble_product 1 (nibble_root x)) (λ x. x) tt)

pub pair_square : Permutes 4 (scaled_square pair_product 2) pair_root
unfolding tower field
pair_square = tested 4 (scaled_square pair_product 2) pair_root tt tt (eq1 4 (λ x. pair_root (scaled_square pair_product 2 x)) (λ x. x) tt) (eq1 4 (λ x. scaled_square pair_product 2 (pair_root x)) (λ x. x) tt)
