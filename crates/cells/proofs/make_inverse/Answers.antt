-- `cells::make_inverse` meets its contract: each value that it puts is its point. Assumes nothing.
use mathlib.Core.Path.{refl, ap, ap₂, ◌∙◌}
use mathlib.Core.List.{[], ◌∷◌}
use Rattle.tower.specs.Tower.{hi, lo, join, nibble_product}
use Rattle.points.specs.Points.{masked, record_points}
use Rattle.cells.specs.Cells.{at, laid, summed, cells_after}
use Rattle.cells.proofs.Made.{nibble_over, lay, lay_four, sum_four, lo_54, lo_62}
use Rattle.cells.proofs.make_inverse.Goals as goal

pub returns : goal.returns
unfolding masked laid cells_after summed
returns c a m masks nibbles inverse e =
    let ρ = c.args.«record» in
    let p47 = c.product-p47.ensures.0 ∙ nibble_over _ _ c.row-row_e.ensures _ ∙ ap₂ nibble_product nibbles.1 inverse in
    let p55 = c.product-p55.ensures.0 ∙ nibble_over _ _ c.row-row_e.ensures _ ∙ ap₂ nibble_product nibbles.0 inverse in
    let p49 = c.product-p49.ensures.0 ∙ nibble_over _ _ c.row-row_e.ensures _ ∙ ap₂ nibble_product masks.1 inverse in
    let p57 = c.product-p57.ensures.0 ∙ nibble_over _ _ c.row-row_e.ensures _ ∙ ap₂ nibble_product masks.0 inverse in
    let s1 = c.high_nibble-s1.ensures in
    let s0 = c.low_nibble-s0.ensures in
    let l1 = lay (record_points a m ρ) (cells_after 4 a m ρ) [] 47 e (p47) c.product-p47.ensures.1 in
    let l2 = lay (record_points a m ρ) (cells_after 4 a m ρ) (47 ∷ []) 55 l1 (p55) c.product-p55.ensures.1 in
    let l3 = lay (record_points a m ρ) (cells_after 4 a m ρ) (47 ∷ 55 ∷ []) 49 l2 (p49) c.product-p49.ensures.1 in
    let l4 = lay (record_points a m ρ) (cells_after 4 a m ρ) (47 ∷ 55 ∷ 49 ∷ []) 57 l3 (p57) c.product-p57.ensures.1 in
    let l5 = lay_four (record_points a m ρ) (cells_after 4 a m ρ) (47 ∷ 55 ∷ 49 ∷ 57 ∷ []) 51 (hi 4 ρ.s) (at 47 a m ρ) (at 48 a m ρ) (at 49 a m ρ) (at 50 a m ρ) l4 (s1) (p47) nibbles.3 (p49) nibbles.4 c.add_four-p54.ensures.1 refl in
    let l6 = lay_four (record_points a m ρ) (cells_after 4 a m ρ) (47 ∷ 55 ∷ 49 ∷ 57 ∷ 51 ∷ 52 ∷ 53 ∷ 54 ∷ []) 59 (lo 4 ρ.s) (at 55 a m ρ) (at 56 a m ρ) (at 57 a m ρ) (at 58 a m ρ) l5 (s0) (p55) nibbles.5 (p57) nibbles.6 c.add_four-p62.ensures.1 refl in
    (l6, c.join_nibbles.ensures ∙ ap₂ (join 4) (ap (lo 4) (sum_four (hi 4 ρ.s) (at 47 a m ρ) (at 48 a m ρ) (at 49 a m ρ) (at 50 a m ρ) _ _ _ _ _ s1 p47 nibbles.3 p49 nibbles.4 c.add_four-p54.ensures.0) ∙ lo_54 a m ρ) (ap (lo 4) (sum_four (lo 4 ρ.s) (at 55 a m ρ) (at 56 a m ρ) (at 57 a m ρ) (at 58 a m ρ) _ _ _ _ _ s0 p55 nibbles.5 p57 nibbles.6 c.add_four-p62.ensures.0) ∙ lo_62 a m ρ))
