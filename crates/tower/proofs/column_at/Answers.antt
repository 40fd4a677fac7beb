-- `tower::column_at` meets its contract: a byte masked by a bit is the bit times the byte. Assumes nothing.
use borrow.Author.Rules.{rules}
use Rattle.tower.proofs.Leaf.{column}
use Rattle.tower.proofs.column_at.Goals as goal

pub returns : goal.returns
returns c = column c.args.column c.args.bit (search rules) c.requires
