-- `tower::halves::low` meets its contract: a mask is a remainder. Assumes nothing.
use Rattle.tower.proofs.Leaf.{low_made}
use Rattle.tower.proofs.halves.low.Goals as goal

pub returns : goal.returns
returns g c = low_made _ c.args.x c.requires
