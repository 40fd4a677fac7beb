-- `cells::lookup::pair_row` meets its contract: from the computed test of the product table of pairs. Assumes nothing.
use Rattle.fips197.specs.Field.{field}
use Rattle.tower.specs.Tower.{tower}
use Rattle.cells.specs.Cells.{entry}
use Rattle.cells.proofs.Lookups.{pair_row_made}
use Rattle.cells.proofs.lookup.pair_row.Goals as goal

pub returns : goal.returns
unfolding tower field entry
returns c y = rw c.from-v.ensures (pair_row_made _ _ tt c.args.x y)
