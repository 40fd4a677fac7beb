-- `tower::change` meets its contract: the loop's invariant: the columns passed, added, and what the rest add up to.
use mathlib.Core.Path.{◌≡◌}
use Prim.Native.Nat.{ℕ}
use lib.ListN.{drop}
use Rattle.fips197.specs.Field.{◌⊕◌}
use Rattle.tower.specs.Tower.{added}
use Rattle.tower.proofs.change.Given as goal

abbrev pub invariant-loop-i : goal.invariant-loop-i
invariant-loop-i l = ◌≡◌ {A = ℕ} (l.sum ⊕ added (drop l.i l.columns) l.x) (added l.columns l.x)
