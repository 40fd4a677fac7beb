-- `cells::write_points` meets its contract: the first i points are put, each from its cell.
use mathlib.Core.Path.{◌≡◌}
use mathlib.Core.List.{List}
use Prim.Native.Nat.{ℕ}
use Rattle.cells.specs.Cells.{recorded}
use Rattle.cells.proofs.write_points.Given as goal

abbrev pub invariant-loop-i : goal.invariant-loop-i
invariant-loop-i l = ◌≡◌ {A = List ℕ} l.points (recorded l.i l.cells l.initial.points)
