-- Steps of the parts that make the points: sums, products whose operands are changed over, and cells in which points are laid. Assumes nothing.
use mathlib.Core.Path.{◌≡◌, refl, sym, ap, ap₂, ◌∙◌}
use mathlib.Core.List.{List, [], ◌∷◌, ◌++◌}
use Prim.Native.Nat.{ℕ, ◌+◌, ◌-◌, ◌*◌, ◌%◌}
use lib.ListN.{get_or, set}
use Rattle.fips197.specs.Field.{◌⊕◌}
use Rattle.fips197.proofs.Xor.{lt}
use Rattle.tower.specs.Tower.{lo, pair_product, nibble_product}
use Rattle.tower.proofs.Level.{pair_level, nibble_level}
use Rattle.tower.proofs.Split.{hi_lt, lo_lt, lo_small}
use Rattle.tower.specs.declared.Record.{Record}
use Rattle.points.specs.Points.{masked, record_points}
use Rattle.cells.specs.Cells.{entry, RowOf, laid, summed}

-- four sums, from what each step answers
pub four_summed : (n v p1 p2 p3 p4 : ℕ) (cells : List ℕ) {r1 r2 r3 r4 : ℕ} {l1 l2 l3 l4 : List ℕ} → r1 ≡ v ⊕ p1 → l1 ≡ set cells (n * 2) (r1 % 256)
    → r2 ≡ r1 ⊕ p2 → l2 ≡ set l1 ((n + 1) * 2) (r2 % 256) → r3 ≡ r2 ⊕ p3 → l3 ≡ set l2 ((n + 2) * 2) (r3 % 256)
    → r4 ≡ r3 ⊕ p4 → l4 ≡ set l3 ((n + 3) * 2) (r4 % 256)
    → (r4 ≡ v ⊕ p1 ⊕ p2 ⊕ p3 ⊕ p4) × (l4 ≡ summed ((n, p1) ∷ (n + 1, p2) ∷ (n + 2, p3) ∷ (n + 3, p4) ∷ []) v cells)
unfolding summed
four_summed n v p1 p2 p3 p4 cells e1 f1 e2 f2 e3 f3 e4 f4 = (cc, cc)

-- a row of a number is one of its equal; and a row read with its operands changed over
pub row_of : (f : ℕ → ℕ → ℕ) (x z row : ℕ) → x ≡ z → RowOf (f x) row → RowOf (f z) row
row_of f x z row e h y = h y ∙ ap (λ (x : ℕ). f x y) e

pub nibble_over : (x row : ℕ) → RowOf (nibble_product x) row → (y : ℕ) → entry row y ≡ nibble_product y x
nibble_over x row h y = h y ∙ nibble_level.commutative x y

pub pair_over : (x row : ℕ) → RowOf (pair_product x) row → (y : ℕ) → entry row y ≡ pair_product y x
pair_over x row h y = h y ∙ pair_level.commutative x y

-- ---- cells in which some points are laid already: one point more, and four sums

laid_snoc : (P C ns : List ℕ) (n : ℕ) → laid (ns ++ (n ∷ [])) P C ≡ set (laid ns P C) (n * 2) (get_or P (n - 1) 0 % 256)
unfolding laid
laid_snoc P C [] n = refl
laid_snoc P C (k ∷ ns) n = laid_snoc P (set C (k * 2) (get_or P (k - 1) 0 % 256)) ns n

module _ (P C : List ℕ) where
  pub lay : (ns : List ℕ) (n : ℕ) {l after : List ℕ} {v : ℕ} → l ≡ laid ns P C → v ≡ get_or P (n - 1) 0 → after ≡ set l (n * 2) (v % 256) → after ≡ laid (ns ++ (n ∷ [])) P C
  lay ns n e ev h = h ∙ ap₂ (λ (l : List ℕ) (v : ℕ). set l (n * 2) (v % 256)) e ev ∙ sym (laid_snoc P C ns n)

  pub lay_four : (ns : List ℕ) (n w q1 q2 q3 q4 : ℕ) {l after : List ℕ} {v p1 p2 p3 p4 : ℕ} → l ≡ laid ns P C → v ≡ w → p1 ≡ q1 → p2 ≡ q2 → p3 ≡ q3 → p4 ≡ q4
      → after ≡ summed ((n, p1) ∷ (n + 1, p2) ∷ (n + 2, p3) ∷ (n + 3, p4) ∷ []) v l
      → summed ((n, q1) ∷ (n + 1, q2) ∷ (n + 2, q3) ∷ (n + 3, q4) ∷ []) w (laid ns P C) ≡ laid (ns ++ (n ∷ (n + 1) ∷ (n + 2) ∷ (n + 3) ∷ [])) P C
      → after ≡ laid (ns ++ (n ∷ (n + 1) ∷ (n + 2) ∷ (n + 3) ∷ [])) P C
  lay_four ns n w q1 q2 q3 q4 e ev e1 e2 e3 e4 h all = h ∙ rw (e, ev, e1, e2, e3, e4) all

pub sum_four : (w q1 q2 q3 q4 v p1 p2 p3 p4 : ℕ) {r : ℕ} → v ≡ w → p1 ≡ q1 → p2 ≡ q2 → p3 ≡ q3 → p4 ≡ q4 → r ≡ v ⊕ p1 ⊕ p2 ⊕ p3 ⊕ p4 → r ≡ w ⊕ q1 ⊕ q2 ⊕ q3 ⊕ q4
sum_four w q1 q2 q3 q4 v p1 p2 p3 p4 ev e1 e2 e3 e4 h = cc

-- ---- the points that are joined have no bits to be cut

module _ (a m : ℕ) (ρ : Record) where
  pub lo_38 : lo 2 (get_or (record_points a m ρ) 37 0) ≡ get_or (record_points a m ρ) 37 0
  unfolding masked
  lo_38 = lo_small 2 _ (search (lt, pair_level.bounded, hi_lt) depth 9)

  pub lo_46 : lo 2 (get_or (record_points a m ρ) 45 0) ≡ get_or (record_points a m ρ) 45 0
  unfolding masked
  lo_46 = lo_small 2 _ (search (lt, pair_level.bounded, lo_lt) depth 9)

  pub lo_54 : lo 4 (get_or (record_points a m ρ) 53 0) ≡ get_or (record_points a m ρ) 53 0
  unfolding masked
  lo_54 = lo_small 4 _ (search (lt, nibble_level.bounded, hi_lt) depth 9)

  pub lo_62 : lo 4 (get_or (record_points a m ρ) 61 0) ≡ get_or (record_points a m ρ) 61 0
  unfolding masked
  lo_62 = lo_small 4 _ (search (lt, nibble_level.bounded, lo_lt) depth 9)
