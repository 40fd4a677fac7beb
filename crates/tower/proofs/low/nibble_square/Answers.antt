-- `tower::low::nibble_square` meets its contract: from the computed test of N times the square. Assumes nothing.
use borrow.Author.Rules.{rules}
use Rattle.tower.proofs.Leaf.{nibble_square_made}
use Rattle.tower.proofs.low.nibble_square.Goals as goal

pub returns : goal.returns
returns c = nibble_square_made c.args.x (search rules)
