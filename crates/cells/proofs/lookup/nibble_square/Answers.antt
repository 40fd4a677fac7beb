-- `cells::lookup::nibble_square` meets its contract: from the computed test of its row. Assumes nothing.
use mathlib.Core.Path.{◌∙◌}
use Rattle.cells.proofs.Lookups.{nibble_square_made}
use Rattle.cells.proofs.lookup.nibble_square.Goals as goal

pub returns : goal.returns
returns c = c.entry.ensures ∙ nibble_square_made c.args.x
