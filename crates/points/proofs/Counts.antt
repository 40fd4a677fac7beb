-- Demand 3: over the 2^26 settings each of the 62 points takes each value as often as the table says. From the counts of the stages. Assumes nothing.
use mathlib.Core.Path.{◌≡◌, ap, ap₂, ◌∙◌}
use mathlib.Core.List.{List}
use mathlib.Core.Logic.{⊎_elim}
use Prim.Native.Nat.{ℕ, ◌+◌, ◌-◌, ◌*◌, ◌<◌, ◌≤◌}
use native.Mathlib.Omega.{arith}
use lib.Dec.{lit<}
use lib.ListN.{get_or}
use Rattle.fips197.specs.Field.{◌⊕◌}
use Rattle.fips197.proofs.Below.{Each, Each.none, Each.◌▸◌, each_at, below_or_not}
use Rattle.fips197.proofs.Xor.{comm}
use Rattle.tower.specs.Tower.{hi, lo, join, pair_product, pair_inverse, nibble_product, nibble_inverse, exchange, inverse_over}
use Rattle.points.specs.Points.{masked, fourteen, eight, points, point}
use Rattle.counting.specs.Counting.{count, share}
use Rattle.points.specs.Counts.{counted, listed, table}
use Rattle.points.specs.Claims.{Demand3}
use Rattle.tower.proofs.Split.{hi_xor, lo_xor, hi_lt, lo_lt, join_lt}
use Rattle.tower.proofs.Level.{pair_level, nibble_level}
use Rattle.points.proofs.Inversion.{point14, point28, masked_e, exchange_xor, bare_b, bare_c}
use Rattle.counting.proofs.Sum.{sum_xor, sum3}
use Rattle.points.proofs.Total.{total, all_settings, Spread, spread, exchange_sum}
use Rattle.counting.proofs.Permute.{is, evenly, identical}
use Rattle.points.proofs.Parts.{often, by, stage, scaled, nibble, nibble_product_law, pair, pair_product_law}
use Rattle.points.proofs.Stage.{fourteen_counts, eight_counts, fourteen_counted, eight_counted, nibble_rows, pair_rows, nibble_root, pair_root, nibble_square, pair_square}

module _ (over : (ℕ → ℕ → ℕ → ℕ → ℕ → ℕ) → ℕ) (S : Spread over) (A v : ℕ) where
  abbrev list : ℕ → ℕ → ℕ → ℕ → ℕ → List ℕ
  list m q r t s = points (A ⊕ m) m q r t s

  abbrev often' : ℕ → ℕ
  often' = often over S list v

  nibble14 : (a b : ℕ) → a < 16 → b < 16 → (j : ℕ) → j < 14
      → sum3 16 (λ x y z. is (get_or (fourteen nibble_product 1 (a ⊕ x) (b ⊕ y) x y z) j 0) v) ≡ get_or (fourteen_counts (16 * (16 * share 16 1 1 v)) (16 * share 16 31 15 v)) j 0
  nibble14 a b ha hb = each_at (fourteen_counted 4 nibble_product 0xf nibble_inverse nibble_level nibble_rows v a b ha hb 1 nibble_root nibble_square)

  pair14 : (a b : ℕ) → a < 4 → b < 4 → (j : ℕ) → j < 14
      → sum3 4 (λ x y z. is (get_or (fourteen pair_product 2 (a ⊕ x) (b ⊕ y) x y z) j 0) v) ≡ get_or (fourteen_counts (4 * (4 * share 4 1 1 v)) (4 * share 4 7 3 v)) j 0
  pair14 a b ha hb = each_at (fourteen_counted 2 pair_product 3 pair_inverse pair_level pair_rows v a b ha hb 2 pair_root pair_square)

  nibble8 : (a b : ℕ) → a < 16 → b < 16 → (j : ℕ) → j < 8
      → sum3 16 (λ x y z. is (get_or (eight nibble_product (a ⊕ x) x (b ⊕ y) y z) j 0) v) ≡ get_or (eight_counts (16 * (16 * share 16 1 1 v)) (16 * share 16 31 15 v)) j 0
  nibble8 a b ha hb = each_at (eight_counted 4 nibble_product 0xf nibble_inverse nibble_level nibble_rows v a b ha hb)

  pair8 : (a b : ℕ) → a < 4 → b < 4 → (j : ℕ) → j < 8
      → sum3 4 (λ x y z. is (get_or (eight pair_product (a ⊕ x) x (b ⊕ y) y z) j 0) v) ≡ get_or (eight_counts (4 * (4 * share 4 1 1 v)) (4 * share 4 7 3 v)) j 0
  pair8 a b ha hb = each_at (eight_counted 2 pair_product 3 pair_inverse pair_level pair_rows v a b ha hb)

  -- ---- what the masked values are: the bare ones under masks of their own

  B : ℕ
  B = bare_b A

  C : ℕ
  C = exchange (bare_c A)

  E : ℕ
  E = nibble_inverse (bare_b A)

  c_lt : C < 4
  unfolding C exchange
  c_lt = join_lt 1 _ _ (lo_lt 1 _) (hi_lt 1 _)

  e_lt : E < 16
  unfolding E nibble_inverse inverse_over
  e_lt = join_lt 2 _ _ (pair_level.bounded _ _) (pair_level.bounded _ _)

  module _ (m q r t s : ℕ) where
    abbrev P : ℕ → ℕ
    P n = point n (A ⊕ m) m q r t s

    hi_B : hi 2 (P 14) ≡ hi 2 B ⊕ hi 2 q
    unfolding B
    hi_B = ap (hi 2) (point14 A m q r t s ∙ comm q (bare_b A)) ∙ hi_xor 2 (bare_b A) q

    lo_B : lo 2 (P 14) ≡ lo 2 B ⊕ lo 2 q
    unfolding B
    lo_B = ap (lo 2) (point14 A m q r t s ∙ comm q (bare_b A)) ∙ lo_xor 2 (bare_b A) q

    c_of : exchange (P 28) ≡ C ⊕ exchange r
    unfolding C
    c_of = ap exchange (point28 A m q r t s ∙ comm r (bare_c A)) ∙ exchange_xor (bare_c A) r

    e_of : t < 16 → join 2 (P 38) (P 46) ≡ E ⊕ t
    unfolding E
    e_of ht = masked_e A m q r t s ht ∙ comm t (nibble_inverse (bare_b A))

  -- ---- the stages

  points_1 : (j : ℕ) → j < 14 → often' (0 + j) ≡ 16384 * get_or (fourteen_counts (16 * (16 * share 16 1 1 v)) (16 * share 16 31 15 v)) j 0
  unfolding masked
  points_1 j l =
      by over S list v 0 14 j l (λ m q r t s. fourteen nibble_product 1 (hi 4 A ⊕ hi 4 m) (lo 4 A ⊕ lo 4 m) (hi 4 m) (lo 4 m) q) (λ m q r t s d.
      ap₂ (λ (x y : ℕ). fourteen nibble_product 1 x y (hi 4 m) (lo 4 m) q) (hi_xor 4 A m) (lo_xor 4 A m))
      ∙ S.from1 (λ x y z. is (get_or (fourteen nibble_product 1 (hi 4 A ⊕ x) (lo 4 A ⊕ y) x y z) j 0) v)
      ∙ ap (λ (x : ℕ). 16384 * x) (nibble14 (hi 4 A) (lo 4 A) (hi_lt 4 A) (lo_lt 4 A) j l)

  points_15 : (j : ℕ) → j < 14 → often' (14 + j) ≡ 1048576 * get_or (fourteen_counts (4 * (4 * share 4 1 1 v)) (4 * share 4 7 3 v)) j 0
  unfolding masked
  points_15 j l =
      by over S list v 14 14 j l (λ m q r t s. fourteen pair_product 2 (hi 2 B ⊕ hi 2 q) (lo 2 B ⊕ lo 2 q) (hi 2 q) (lo 2 q) r) (λ m q r t s d.
      ap₂ (λ (x y : ℕ). fourteen pair_product 2 x y (hi 2 q) (lo 2 q) r) (hi_B m q r t s) (lo_B m q r t s))
      ∙ S.from15 (λ x y z. is (get_or (fourteen pair_product 2 (hi 2 B ⊕ x) (lo 2 B ⊕ y) x y z) j 0) v)
      ∙ ap (λ (x : ℕ). 1048576 * x) (pair14 (hi 2 B) (lo 2 B) (hi_lt 2 B) (lo_lt 2 B) j l)

  points_31 : (j : ℕ) → j < 8 → often' (30 + j) ≡ 1048576 * get_or (eight_counts (4 * (4 * share 4 1 1 v)) (4 * share 4 7 3 v)) j 0
  unfolding masked
  points_31 j l =
      by over S list v 30 8 j l (λ m q r t s. eight pair_product (lo 2 B ⊕ lo 2 q) (lo 2 q) (C ⊕ exchange r) (exchange r) (hi 2 t)) (λ m q r t s d.
      ap₂ (λ (x y : ℕ). eight pair_product x (lo 2 q) y (exchange r) (hi 2 t)) (lo_B m q r t s) (c_of m q r t s))
      ∙ S.from31 (λ x y z. is (get_or (eight pair_product (lo 2 B ⊕ x) x (C ⊕ y) y z) j 0) v)
      ∙ ap (λ (x : ℕ). 1048576 * x) (pair8 (lo 2 B) C (lo_lt 2 B) c_lt j l)

  points_39 : (j : ℕ) → j < 8 → often' (38 + j) ≡ 1048576 * get_or (eight_counts (4 * (4 * share 4 1 1 v)) (4 * share 4 7 3 v)) j 0
  unfolding masked
  points_39 j l =
      by over S list v 38 8 j l (λ m q r t s. eight pair_product (hi 2 B ⊕ hi 2 q) (hi 2 q) (C ⊕ exchange r) (exchange r) (lo 2 t)) (λ m q r t s d.
      ap₂ (λ (x y : ℕ). eight pair_product x (hi 2 q) y (exchange r) (lo 2 t)) (hi_B m q r t s) (c_of m q r t s))
      ∙ S.from39 (λ x y z. is (get_or (eight pair_product (hi 2 B ⊕ x) x (C ⊕ y) y z) j 0) v)
      ∙ ap (λ (x : ℕ). 1048576 * x) (pair8 (hi 2 B) C (hi_lt 2 B) c_lt j l)

  points_47 : (j : ℕ) → j < 8 → often' (46 + j) ≡ 16384 * get_or (eight_counts (16 * (16 * share 16 1 1 v)) (16 * share 16 31 15 v)) j 0
  unfolding masked
  points_47 j l =
      by over S list v 46 8 j l (λ m q r t s. eight nibble_product (lo 4 A ⊕ lo 4 m) (lo 4 m) (E ⊕ t) t (hi 4 s)) (λ m q r t s d.
      ap₂ (λ (x y : ℕ). eight nibble_product x (lo 4 m) y t (hi 4 s)) (lo_xor 4 A m) (e_of m q r t s d.t_lt))
      ∙ S.from47 (λ x y z. is (get_or (eight nibble_product (lo 4 A ⊕ x) x (E ⊕ y) y z) j 0) v)
      ∙ ap (λ (x : ℕ). 16384 * x) (nibble8 (lo 4 A) E (lo_lt 4 A) e_lt j l)

  points_55 : (j : ℕ) → j < 8 → often' (54 + j) ≡ 16384 * get_or (eight_counts (16 * (16 * share 16 1 1 v)) (16 * share 16 31 15 v)) j 0
  unfolding masked
  points_55 j l =
      by over S list v 54 8 j l (λ m q r t s. eight nibble_product (hi 4 A ⊕ hi 4 m) (hi 4 m) (E ⊕ t) t (lo 4 s)) (λ m q r t s d.
      ap₂ (λ (x y : ℕ). eight nibble_product x (hi 4 m) y t (lo 4 s)) (hi_xor 4 A m) (e_of m q r t s d.t_lt))
      ∙ S.from55 (λ x y z. is (get_or (eight nibble_product (hi 4 A ⊕ x) x (E ⊕ y) y z) j 0) v)
      ∙ ap (λ (x : ℕ). 16384 * x) (nibble8 (hi 4 A) E (hi_lt 4 A) e_lt j l)

  -- the two exchanges, points 29 and 30: c under r, and r, their bits exchanged
  points_29 : Each (λ j. often' (28 + j) ≡ 16777216 * share 4 1 1 v) 2
  unfolding masked often
  points_29 =
      none
      ▸ (S.same _ _ (λ m q r t s d. ap (λ (p : ℕ). is p v) (c_of m q r t s ∙ comm C (exchange r)))
      ∙ S.from29 (λ r. is (exchange r ⊕ C) v)
      ∙ ap (λ (x : ℕ). 16777216 * x) (exchange_sum (λ y. is (y ⊕ C) v) ∙ sum_xor 2 (λ y. is y v) C c_lt ∙ evenly 4 (λ x. x) (λ x. x) (identical 4) v (lit< tt)))
      ▸ (S.from29 (λ r. is (exchange r) v) ∙ ap (λ (x : ℕ). 16777216 * x) (exchange_sum (λ y. is y v) ∙ evenly 4 (λ x. x) (λ x. x) (identical 4) v (lit< tt)))

-- ---- the table's numbers are those of the stages

module _ (v : ℕ) where
  -- each stage has its row, point by point
  Fourteen : ℕ → ℕ → ℕ → ℕ → Type 0
  Fourteen o c u p = Each (λ j. c * get_or (fourteen_counts u p) j 0 ≡ listed table (o + j) v) 14

  Eight : ℕ → ℕ → ℕ → ℕ → Type 0
  Eight o c u p = Each (λ j. c * get_or (eight_counts u p) j 0 ≡ listed table (o + j) v) 8

  rows_1 : Fourteen 1 16384 (16 * (16 * share 16 1 1 v)) (16 * share 16 31 15 v)
  unfolding Fourteen
  rows_1 =
      let u = nibble v in
      let p = nibble_product_law v in
      none ▸ u ▸ u ▸ u ▸ u ▸ p ▸ p ▸ p ▸ p ▸ u ▸ u ▸ u ▸ u ▸ u ▸ u

  rows_15 : Fourteen 15 1048576 (4 * (4 * share 4 1 1 v)) (4 * share 4 7 3 v)
  unfolding Fourteen
  rows_15 =
      let u = pair v in
      let p = pair_product_law v in
      none ▸ u ▸ u ▸ u ▸ u ▸ p ▸ p ▸ p ▸ p ▸ u ▸ u ▸ u ▸ u ▸ u ▸ u

  rows_31 : Eight 31 1048576 (4 * (4 * share 4 1 1 v)) (4 * share 4 7 3 v)
  unfolding Eight
  rows_31 =
      let u = pair v in
      let p = pair_product_law v in
      none ▸ p ▸ p ▸ p ▸ p ▸ u ▸ u ▸ u ▸ u

  rows_39 : Eight 39 1048576 (4 * (4 * share 4 1 1 v)) (4 * share 4 7 3 v)
  unfolding Eight
  rows_39 =
      let u = pair v in
      let p = pair_product_law v in
      none ▸ p ▸ p ▸ p ▸ p ▸ u ▸ u ▸ u ▸ u

  rows_47 : Eight 47 16384 (16 * (16 * share 16 1 1 v)) (16 * share 16 31 15 v)
  unfolding Eight
  rows_47 =
      let u = nibble v in
      let p = nibble_product_law v in
      none ▸ p ▸ p ▸ p ▸ p ▸ u ▸ u ▸ u ▸ u

  rows_55 : Eight 55 16384 (16 * (16 * share 16 1 1 v)) (16 * share 16 31 15 v)
  unfolding Eight
  rows_55 =
      let u = nibble v in
      let p = nibble_product_law v in
      none ▸ p ▸ p ▸ p ▸ p ▸ u ▸ u ▸ u ▸ u

  rows_29 : Each (λ j. 16777216 * share 4 1 1 v ≡ listed table (29 + j) v) 2
  rows_29 = none ▸ scaled 16777216 4 1 1 v ▸ scaled 16777216 4 1 1 v

module _ (over : (ℕ → ℕ → ℕ → ℕ → ℕ → ℕ) → ℕ) (S : Spread over) (A v : ℕ) where
  right : (n : ℕ) → 1 ≤ n → n < 63 → often' over S A v (n - 1) ≡ listed table n v
  unfolding Fourteen Eight
  right n l u =
      ⊎_elim (λ b. stage over S (list over S A v) v table 1 14 (lit< tt) _ (points_1 over S A v) (each_at (rows_1 v)) n l b) (λ l.
      ⊎_elim (λ b. stage over S (list over S A v) v table 15 14 (lit< tt) _ (points_15 over S A v) (each_at (rows_15 v)) n l b) (λ l.
      ⊎_elim (λ b. stage over S (list over S A v) v table 29 2 (lit< tt) _ (each_at (points_29 over S A v)) (each_at (rows_29 v)) n l b) (λ l.
      ⊎_elim (λ b. stage over S (list over S A v) v table 31 8 (lit< tt) _ (points_31 over S A v) (each_at (rows_31 v)) n l b) (λ l.
      ⊎_elim (λ b. stage over S (list over S A v) v table 39 8 (lit< tt) _ (points_39 over S A v) (each_at (rows_39 v)) n l b) (λ l.
      ⊎_elim (λ b. stage over S (list over S A v) v table 47 8 (lit< tt) _ (points_47 over S A v) (each_at (rows_47 v)) n l b) (λ l.
      stage over S (list over S A v) v table 55 8 (lit< tt) _ (points_55 over S A v) (each_at (rows_55 v)) n l u)
      (below_or_not n 55)) (below_or_not n 47)) (below_or_not n 39)) (below_or_not n 31)) (below_or_not n 29)) (below_or_not n 15)

  -- however the settings are drawn, each point is as often v as the table says
  pub as_listed : (n : ℕ) → 1 ≤ n → n ≤ 62 → over (λ m q r t s. is (point n (A ⊕ m) m q r t s) v) ≡ listed table n v
  unfolding often point
  as_listed n l u = right n l (omega arith)

pub demand3 : Demand3
unfolding counted count
demand3 A n v h l u = all_settings (λ m q r t s. is (point n (A ⊕ m) m q r t s) v) ∙ as_listed total spread A v n l u
