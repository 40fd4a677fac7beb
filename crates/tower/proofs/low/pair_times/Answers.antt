-- `tower::low::pair_times` meets its contract: from the computed test of the pair product. Assumes nothing.
use Rattle.tower.proofs.Leaf.{pair_made}
use Rattle.tower.proofs.low.pair_times.Goals as goal

pub returns : goal.returns
returns c = pair_made c.args.x c.args.y
