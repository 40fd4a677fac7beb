-- `cells::write_points` meets its contract: the first i points are put, each from its cell. Assumes nothing.
use mathlib.Core.Path.{refl}
use native.Mathlib.Omega.{arith}
use Rattle.cells.proofs.Recorded.{cell_fits, recorded_next}
use Rattle.cells.specs.Cells.{cells_of_points, recorded}
use Rattle.cells.proofs.write_points.Goals as goal

pub loop-i-init : goal.loop-i-init
unfolding recorded
loop-i-init c = refl

pub bounds-cells-from : goal.bounds-cells-from
unfolding cells_of_points
bounds-cells-from c = cell_fits c.loop-i.i _ (omega arith) refl c.from.ensures

pub loop-i-preserved : goal.loop-i-preserved
unfolding cells_of_points
loop-i-preserved c = recorded_next c.loop-i.i _ _ _ _ refl c.loop-i.invariant c.from.ensures
