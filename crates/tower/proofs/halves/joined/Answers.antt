-- `tower::halves::joined` meets its contract: from the law of joining. Assumes nothing.
use Rattle.tower.proofs.Leaf.{halves_joined}
use Rattle.tower.proofs.halves.joined.Goals as goal

pub returns : goal.returns
returns g c = halves_joined _ c.args.h c.args.l _ _ c.requires c.low.ensures c.low-2.ensures
