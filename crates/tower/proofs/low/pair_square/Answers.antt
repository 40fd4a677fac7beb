-- `tower::low::pair_square` meets its contract: from the computed test of n times the square. Assumes nothing.
use borrow.Author.Rules.{rules}
use Rattle.tower.proofs.Leaf.{pair_square_made}
use Rattle.tower.proofs.low.pair_square.Goals as goal

pub returns : goal.returns
returns c = pair_square_made c.args.x (search rules)
