-- `tower::halves::high` meets its contract: a shift is a division, a mask a remainder. Assumes nothing.
use Rattle.tower.proofs.Leaf.{high_made}
use Rattle.tower.proofs.halves.high.Goals as goal

pub returns : goal.returns
returns g c = high_made _ c.args.x c.requires
