-- `cells::make_masks` meets its contract: each value that it puts is its point, and its rows are those of the masks. Assumes nothing.
use mathlib.Core.Path.{ap, ap₂, ◌∙◌}
use mathlib.Core.List.{List, [], ◌∷◌}
use Prim.Native.Nat.{ℕ}
use lib.ListN.{get_or}
use Rattle.fips197.specs.Field.{◌⊕◌}
use Rattle.tower.specs.Tower.{hi, lo, scaled_square, exchange, pair_product, nibble_product}
use Rattle.points.specs.Points.{masked, record_points}
use Rattle.cells.specs.Cells.{laid, cells_after}
use Rattle.cells.proofs.Made.{row_of, lay}
use Rattle.cells.proofs.make_masks.Goals as goal

pub returns : goal.returns
unfolding masked laid cells_after
returns c a m e =
    let ρ = c.args.«record» in
    let m1 = c.high_nibble-m1.ensures ∙ ap (λ (l : List ℕ). hi 4 (get_or l 0 0)) e in
    let m0 = c.low_nibble-m0.ensures ∙ ap (λ (l : List ℕ). lo 4 (get_or l 0 0)) e in
    let q = c.high_nibble-q.ensures in
    let q1 = c.high-q1.ensures ∙ ap (hi 2) q in
    let q0 = c.low-q0.ensures ∙ ap (lo 2) q in
    let p17 = c.add-p17.ensures.0 ∙ ap₂ ◌⊕◌ q1 q0 in
    let p18 = c.pair_square-p18.ensures ∙ ap (scaled_square pair_product 2) p17 in
    let p3 = c.add-p3.ensures.0 ∙ ap₂ ◌⊕◌ m1 m0 in
    let p4 = c.nibble_square-p4.ensures ∙ ap (scaled_square nibble_product 1) p3 in
    let p8 = c.product-p8.ensures.0 ∙ c.row-row_m1.ensures _ ∙ ap₂ nibble_product m1 m0 in
    let p30 = c.exchange-p30.ensures ∙ ap exchange c.from.ensures in
    let p22 = c.product-p22.ensures.0 ∙ c.pair_row-row_q1.ensures _ ∙ ap₂ pair_product q1 q0 in
    let l1 = lay (record_points a m ρ) (cells_after 0 a m ρ) [] 17 e (p17) c.add-p17.ensures.1 in
    let l2 = lay (record_points a m ρ) (cells_after 0 a m ρ) (17 ∷ []) 18 l1 (p18) c.put.ensures in
    let l3 = lay (record_points a m ρ) (cells_after 0 a m ρ) (17 ∷ 18 ∷ []) 3 l2 (p3) c.add-p3.ensures.1 in
    let l4 = lay (record_points a m ρ) (cells_after 0 a m ρ) (17 ∷ 18 ∷ 3 ∷ []) 4 l3 (p4) c.put-2.ensures in
    let l5 = lay (record_points a m ρ) (cells_after 0 a m ρ) (17 ∷ 18 ∷ 3 ∷ 4 ∷ []) 8 l4 (p8) c.product-p8.ensures.1 in
    let l6 = lay (record_points a m ρ) (cells_after 0 a m ρ) (17 ∷ 18 ∷ 3 ∷ 4 ∷ 8 ∷ []) 30 l5 (p30) c.put-3.ensures in
    let l7 = lay (record_points a m ρ) (cells_after 0 a m ρ) (17 ∷ 18 ∷ 3 ∷ 4 ∷ 8 ∷ 30 ∷ []) 22 l6 (p22) c.product-p22.ensures.1 in
    (l7, (m1, m0, q1, q0, row_of nibble_product _ _ _ m1 c.row-row_m1.ensures, row_of nibble_product _ _ _ c.low_nibble.ensures c.row-row_t.ensures, row_of pair_product _ _ _ q1 c.pair_row-row_q1.ensures, row_of pair_product _ _ _ p30 c.pair_row-row_p30.ensures, p4, p8, p18, p22))
