-- `cells::lookup::entry` meets its contract: by its definition, and what is left by 16. Assumes nothing.
use mathlib.Core.Path.{refl}
use Rattle.cells.specs.Cells.{entry}
use Rattle.cells.proofs.lookup.entry.Goals as goal

pub returns : goal.returns
unfolding entry
returns c = refl
