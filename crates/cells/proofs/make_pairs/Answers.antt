-- `cells::make_pairs` meets its contract: each value that it puts is its point. Assumes nothing.
use mathlib.Core.Path.{refl, ap, ap₂, ◌∙◌}
use mathlib.Core.List.{[], ◌∷◌}
use Rattle.fips197.specs.Field.{◌⊕◌}
use Rattle.tower.specs.Tower.{hi, lo, scaled_square, pair_product}
use Rattle.points.specs.Points.{masked, record_points}
use Rattle.cells.specs.Cells.{at, laid, summed, cells_after}
use Rattle.cells.proofs.Made.{pair_over, lay, lay_four, sum_four}
use Rattle.cells.proofs.make_pairs.Goals as goal

pub returns : goal.returns
unfolding masked laid cells_after summed
returns c a m masks b e =
    let ρ = c.args.«record» in
    let b1 = c.high-b1.ensures ∙ ap (hi 2) b in
    let b0 = c.low-b0.ensures ∙ ap (lo 2) b in
    let p15 = c.add-p15.ensures.0 ∙ ap₂ ◌⊕◌ b1 b0 in
    let p16 = c.pair_square-p16.ensures ∙ ap (scaled_square pair_product 2) p15 in
    let p40 = c.product-p40.ensures.0 ∙ pair_over _ _ masks.7 _ ∙ ap₂ pair_product b1 refl in
    let p19 = c.product-p19.ensures.0 ∙ c.pair_row-row_b1.ensures _ ∙ ap₂ pair_product b1 b0 in
    let p32 = c.product-p32.ensures.0 ∙ pair_over _ _ masks.7 _ ∙ ap₂ pair_product b0 refl in
    let p21 = c.product-p21.ensures.0 ∙ pair_over _ _ masks.6 _ ∙ ap₂ pair_product b0 refl in
    let p42 = c.product-p42.ensures.0 ∙ pair_over _ _ masks.7 _ ∙ ap₂ pair_product masks.2 refl in
    let p34 = c.product-p34.ensures.0 ∙ pair_over _ _ masks.7 _ ∙ ap₂ pair_product masks.3 refl in
    let p20 = c.product-p20.ensures.0 ∙ c.pair_row-row_b1.ensures _ ∙ ap₂ pair_product b1 masks.3 in
    let p23 = c.add-p23.ensures.0 ∙ ap₂ ◌⊕◌ c.from.ensures p16 in
    let p24 = c.add-p24.ensures.0 ∙ ap₂ ◌⊕◌ p23 masks.10 in
    let l1 = lay (record_points a m ρ) (cells_after 2 a m ρ) [] 15 e (p15) c.add-p15.ensures.1 in
    let l2 = lay (record_points a m ρ) (cells_after 2 a m ρ) (15 ∷ []) 16 l1 (p16) c.put.ensures in
    let l3 = lay (record_points a m ρ) (cells_after 2 a m ρ) (15 ∷ 16 ∷ []) 40 l2 (p40) c.product-p40.ensures.1 in
    let l4 = lay (record_points a m ρ) (cells_after 2 a m ρ) (15 ∷ 16 ∷ 40 ∷ []) 19 l3 (p19) c.product-p19.ensures.1 in
    let l5 = lay (record_points a m ρ) (cells_after 2 a m ρ) (15 ∷ 16 ∷ 40 ∷ 19 ∷ []) 32 l4 (p32) c.product-p32.ensures.1 in
    let l6 = lay (record_points a m ρ) (cells_after 2 a m ρ) (15 ∷ 16 ∷ 40 ∷ 19 ∷ 32 ∷ []) 21 l5 (p21) c.product-p21.ensures.1 in
    let l7 = lay (record_points a m ρ) (cells_after 2 a m ρ) (15 ∷ 16 ∷ 40 ∷ 19 ∷ 32 ∷ 21 ∷ []) 42 l6 (p42) c.product-p42.ensures.1 in
    let l8 = lay (record_points a m ρ) (cells_after 2 a m ρ) (15 ∷ 16 ∷ 40 ∷ 19 ∷ 32 ∷ 21 ∷ 42 ∷ []) 34 l7 (p34) c.product-p34.ensures.1 in
    let l9 = lay (record_points a m ρ) (cells_after 2 a m ρ) (15 ∷ 16 ∷ 40 ∷ 19 ∷ 32 ∷ 21 ∷ 42 ∷ 34 ∷ []) 20 l8 (p20) c.product-p20.ensures.1 in
    let l10 = lay (record_points a m ρ) (cells_after 2 a m ρ) (15 ∷ 16 ∷ 40 ∷ 19 ∷ 32 ∷ 21 ∷ 42 ∷ 34 ∷ 20 ∷ []) 23 l9 (p23) c.add-p23.ensures.1 in
    let l11 = lay (record_points a m ρ) (cells_after 2 a m ρ) (15 ∷ 16 ∷ 40 ∷ 19 ∷ 32 ∷ 21 ∷ 42 ∷ 34 ∷ 20 ∷ 23 ∷ []) 24 l10 (p24) c.add-p24.ensures.1 in
    let l12 = lay_four (record_points a m ρ) (cells_after 2 a m ρ) (15 ∷ 16 ∷ 40 ∷ 19 ∷ 32 ∷ 21 ∷ 42 ∷ 34 ∷ 20 ∷ 23 ∷ 24 ∷ []) 25 (at 24 a m ρ) (at 19 a m ρ) (at 20 a m ρ) (at 21 a m ρ) (at 22 a m ρ) l11 (p24) (p19) (p20) (p21) masks.11 c.add_four-p28.ensures.1 refl in
    (l12, (b1, b0, sum_four (at 24 a m ρ) (at 19 a m ρ) (at 20 a m ρ) (at 21 a m ρ) (at 22 a m ρ) _ _ _ _ _ p24 p19 p20 p21 masks.11 c.add_four-p28.ensures.0, p32, p34, p40, p42))
