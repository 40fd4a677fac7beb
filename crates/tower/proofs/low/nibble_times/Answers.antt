-- `tower::low::nibble_times` meets its contract: from the computed test of the nibble product. Assumes nothing.
use Rattle.tower.proofs.Leaf.{nibble_made}
use Rattle.tower.proofs.low.nibble_times.Goals as goal

pub returns : goal.returns
returns c = nibble_made c.args.x c.args.y
