-- `cells::lookup::row` meets its contract: from the computed test of the product table of nibbles. Assumes nothing.
use Rattle.fips197.specs.Field.{field}
use Rattle.tower.specs.Tower.{tower}
use Rattle.cells.specs.Cells.{entry}
use Rattle.cells.proofs.Lookups.{row_made}
use Rattle.cells.proofs.lookup.row.Goals as goal

pub returns : goal.returns
unfolding tower field entry
returns c y = rw c.from-v.ensures (row_made _ _ _ _ tt c.args.x y)
