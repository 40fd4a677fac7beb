-- `cells::make_nibbles` meets its contract: each value that it puts is its point. Assumes nothing.
use mathlib.Core.Path.{refl, ap, ap₂, ◌∙◌}
use mathlib.Core.List.{[], ◌∷◌}
use Rattle.fips197.specs.Field.{◌⊕◌}
use Rattle.tower.specs.Tower.{scaled_square, nibble_product}
use Rattle.points.specs.Points.{masked, record_points}
use Rattle.cells.specs.Cells.{at, laid, summed, cells_after}
use Rattle.cells.proofs.Made.{nibble_over, lay, lay_four, sum_four}
use Rattle.cells.proofs.make_nibbles.Goals as goal

pub returns : goal.returns
unfolding masked laid cells_after summed
returns c m masks e =
    let ρ = c.args.«record» in
    let a = c.args.masked in
    let a1 = c.high_nibble-a1.ensures in
    let a0 = c.low_nibble-a0.ensures in
    let p1 = c.add-p1.ensures.0 ∙ ap₂ ◌⊕◌ a1 a0 in
    let p2 = c.nibble_square-p2.ensures ∙ ap (scaled_square nibble_product 1) p1 in
    let p56 = c.product-p56.ensures.0 ∙ nibble_over _ _ masks.5 _ ∙ ap₂ nibble_product a1 refl in
    let p5 = c.product-p5.ensures.0 ∙ c.row-row_a1.ensures _ ∙ ap₂ nibble_product a1 a0 in
    let p48 = c.product-p48.ensures.0 ∙ nibble_over _ _ masks.5 _ ∙ ap₂ nibble_product a0 refl in
    let p7 = c.product-p7.ensures.0 ∙ nibble_over _ _ masks.4 _ ∙ ap₂ nibble_product a0 refl in
    let p58 = c.product-p58.ensures.0 ∙ nibble_over _ _ masks.5 _ ∙ ap₂ nibble_product masks.0 refl in
    let p50 = c.product-p50.ensures.0 ∙ nibble_over _ _ masks.5 _ ∙ ap₂ nibble_product masks.1 refl in
    let p6 = c.product-p6.ensures.0 ∙ c.row-row_a1.ensures _ ∙ ap₂ nibble_product a1 masks.1 in
    let p9 = c.add-p9.ensures.0 ∙ ap₂ ◌⊕◌ c.high_nibble.ensures p2 in
    let p10 = c.add-p10.ensures.0 ∙ ap₂ ◌⊕◌ p9 masks.8 in
    let l1 = lay (record_points a m ρ) (cells_after 1 a m ρ) [] 1 e (p1) c.add-p1.ensures.1 in
    let l2 = lay (record_points a m ρ) (cells_after 1 a m ρ) (1 ∷ []) 2 l1 (p2) c.put.ensures in
    let l3 = lay (record_points a m ρ) (cells_after 1 a m ρ) (1 ∷ 2 ∷ []) 56 l2 (p56) c.product-p56.ensures.1 in
    let l4 = lay (record_points a m ρ) (cells_after 1 a m ρ) (1 ∷ 2 ∷ 56 ∷ []) 5 l3 (p5) c.product-p5.ensures.1 in
    let l5 = lay (record_points a m ρ) (cells_after 1 a m ρ) (1 ∷ 2 ∷ 56 ∷ 5 ∷ []) 48 l4 (p48) c.product-p48.ensures.1 in
    let l6 = lay (record_points a m ρ) (cells_after 1 a m ρ) (1 ∷ 2 ∷ 56 ∷ 5 ∷ 48 ∷ []) 7 l5 (p7) c.product-p7.ensures.1 in
    let l7 = lay (record_points a m ρ) (cells_after 1 a m ρ) (1 ∷ 2 ∷ 56 ∷ 5 ∷ 48 ∷ 7 ∷ []) 58 l6 (p58) c.product-p58.ensures.1 in
    let l8 = lay (record_points a m ρ) (cells_after 1 a m ρ) (1 ∷ 2 ∷ 56 ∷ 5 ∷ 48 ∷ 7 ∷ 58 ∷ []) 50 l7 (p50) c.product-p50.ensures.1 in
    let l9 = lay (record_points a m ρ) (cells_after 1 a m ρ) (1 ∷ 2 ∷ 56 ∷ 5 ∷ 48 ∷ 7 ∷ 58 ∷ 50 ∷ []) 6 l8 (p6) c.product-p6.ensures.1 in
    let l10 = lay (record_points a m ρ) (cells_after 1 a m ρ) (1 ∷ 2 ∷ 56 ∷ 5 ∷ 48 ∷ 7 ∷ 58 ∷ 50 ∷ 6 ∷ []) 9 l9 (p9) c.add-p9.ensures.1 in
    let l11 = lay (record_points a m ρ) (cells_after 1 a m ρ) (1 ∷ 2 ∷ 56 ∷ 5 ∷ 48 ∷ 7 ∷ 58 ∷ 50 ∷ 6 ∷ 9 ∷ []) 10 l10 (p10) c.add-p10.ensures.1 in
    let l12 = lay_four (record_points a m ρ) (cells_after 1 a m ρ) (1 ∷ 2 ∷ 56 ∷ 5 ∷ 48 ∷ 7 ∷ 58 ∷ 50 ∷ 6 ∷ 9 ∷ 10 ∷ []) 11 (at 10 a m ρ) (at 5 a m ρ) (at 6 a m ρ) (at 7 a m ρ) (at 8 a m ρ) l11 (p10) (p5) (p6) (p7) masks.9 c.add_four-b.ensures.1 refl in
    (l12, (a1, a0, sum_four (at 10 a m ρ) (at 5 a m ρ) (at 6 a m ρ) (at 7 a m ρ) (at 8 a m ρ) _ _ _ _ _ p10 p5 p6 p7 masks.9 c.add_four-b.ensures.0, p48, p50, p56, p58))
