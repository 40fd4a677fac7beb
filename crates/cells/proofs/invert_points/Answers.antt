-- `cells::invert_points` meets its contract: as `invert`, and the points from their cells where the buffer has room for them. Assumes nothing.
use mathlib.Core.Path.{refl}
use borrow.Author.Rules.{rules}
use Rattle.refusal.proofs.Part.{on_length_law, off_length}
use Rattle.cells.specs.Cells.{cells_after}
use Rattle.cells.proofs.Recorded.{recorded_points}
use Rattle.cells.proofs.invert_points.Goals as goal

pub make_points-inverse-requires : goal.make_points-inverse-requires
unfolding cells_after
make_points-inverse-requires c = refl

pub returns-then-points-eq62 : goal.returns-then-points-eq62
returns-then-points-eq62 c =
    let made = c.make_points-inverse in
    let long = c.if-points-eq62.true in
    (made.ensures.1, on_length_law _ _ _ long (recorded_points _ _ _ _ _ _ (search rules) long made.ensures.0 c.write_points.ensures))

pub returns-else-points-eq62 : goal.returns-else-points-eq62
returns-else-points-eq62 c = (c.make_points-inverse.ensures.1, off_length _ _ _ c.if-points-eq62.false refl)
