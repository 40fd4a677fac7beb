-- `cells::lookup::pair_square` meets its contract: from the computed test over four pairs. Assumes nothing.
use Rattle.cells.proofs.Lookups.{pair_square_made}
use Rattle.cells.proofs.lookup.pair_square.Goals as goal

pub returns : goal.returns
returns c = pair_square_made c.args.x
