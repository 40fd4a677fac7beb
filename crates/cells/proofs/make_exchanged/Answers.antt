-- `cells::make_exchanged` meets its contract: each value that it puts is its point. Assumes nothing.
use mathlib.Core.Path.{refl, ap, ap₂, ◌∙◌}
use mathlib.Core.List.{[], ◌∷◌}
use Rattle.tower.specs.Tower.{hi, lo, join, exchange, pair_product}
use Rattle.points.specs.Points.{masked, record_points}
use Rattle.cells.specs.Cells.{at, laid, summed, cells_after}
use Rattle.cells.proofs.Made.{pair_over, lay, lay_four, sum_four, lo_38, lo_46}
use Rattle.cells.proofs.make_exchanged.Goals as goal

pub returns : goal.returns
unfolding masked laid cells_after summed
returns c a m masks pairs e =
    let ρ = c.args.«record» in
    let p29 = c.exchange-p29.ensures ∙ ap exchange pairs.2 in
    let p39 = c.product-p39.ensures.0 ∙ pair_over _ _ c.pair_row-row_p29.ensures _ ∙ ap₂ pair_product pairs.0 p29 in
    let p31 = c.product-p31.ensures.0 ∙ pair_over _ _ c.pair_row-row_p29.ensures _ ∙ ap₂ pair_product pairs.1 p29 in
    let p41 = c.product-p41.ensures.0 ∙ pair_over _ _ c.pair_row-row_p29.ensures _ ∙ ap₂ pair_product masks.2 p29 in
    let p33 = c.product-p33.ensures.0 ∙ pair_over _ _ c.pair_row-row_p29.ensures _ ∙ ap₂ pair_product masks.3 p29 in
    let t = c.low_nibble-t.ensures in
    let t1 = c.high-t1.ensures ∙ ap (hi 2) t in
    let t0 = c.low-t0.ensures ∙ ap (lo 2) t in
    let l1 = lay (record_points a m ρ) (cells_after 3 a m ρ) [] 29 e (p29) c.put.ensures in
    let l2 = lay (record_points a m ρ) (cells_after 3 a m ρ) (29 ∷ []) 39 l1 (p39) c.product-p39.ensures.1 in
    let l3 = lay (record_points a m ρ) (cells_after 3 a m ρ) (29 ∷ 39 ∷ []) 31 l2 (p31) c.product-p31.ensures.1 in
    let l4 = lay (record_points a m ρ) (cells_after 3 a m ρ) (29 ∷ 39 ∷ 31 ∷ []) 41 l3 (p41) c.product-p41.ensures.1 in
    let l5 = lay (record_points a m ρ) (cells_after 3 a m ρ) (29 ∷ 39 ∷ 31 ∷ 41 ∷ []) 33 l4 (p33) c.product-p33.ensures.1 in
    let l6 = lay_four (record_points a m ρ) (cells_after 3 a m ρ) (29 ∷ 39 ∷ 31 ∷ 41 ∷ 33 ∷ []) 35 (hi 2 (lo 4 ρ.qt)) (at 31 a m ρ) (at 32 a m ρ) (at 33 a m ρ) (at 34 a m ρ) l5 (t1) (p31) pairs.3 (p33) pairs.4 c.add_four-p38.ensures.1 refl in
    let l7 = lay_four (record_points a m ρ) (cells_after 3 a m ρ) (29 ∷ 39 ∷ 31 ∷ 41 ∷ 33 ∷ 35 ∷ 36 ∷ 37 ∷ 38 ∷ []) 43 (lo 2 (lo 4 ρ.qt)) (at 39 a m ρ) (at 40 a m ρ) (at 41 a m ρ) (at 42 a m ρ) l6 (t0) (p39) pairs.5 (p41) pairs.6 c.add_four-p46.ensures.1 refl in
    (l7, c.joined.ensures ∙ ap₂ (join 2) (ap (lo 2) (sum_four (hi 2 (lo 4 ρ.qt)) (at 31 a m ρ) (at 32 a m ρ) (at 33 a m ρ) (at 34 a m ρ) _ _ _ _ _ t1 p31 pairs.3 p33 pairs.4 c.add_four-p38.ensures.0) ∙ lo_38 a m ρ) (ap (lo 2) (sum_four (lo 2 (lo 4 ρ.qt)) (at 39 a m ρ) (at 40 a m ρ) (at 41 a m ρ) (at 42 a m ρ) _ _ _ _ _ t0 p39 pairs.5 p41 pairs.6 c.add_four-p46.ensures.0) ∙ lo_46 a m ρ))
