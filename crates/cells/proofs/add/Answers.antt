-- `cells::add` meets its contract: by its definition. Assumes nothing.
use mathlib.Core.Path.{refl}
use Rattle.fips197.specs.Field.{◌⊕◌}
use Rattle.cells.proofs.add.Goals as goal

pub returns : goal.returns
unfolding ◌⊕◌
returns c = (refl, c.put.ensures)
