-- `columns::mix_byte` meets its contract: from the products by 1, 2 and 3. Assumes nothing.
use Rattle.columns.proofs.Bytes.{mixed_byte}
use borrow.Author.Rules.{rules}
use Rattle.columns.proofs.mix_byte.Goals as goal

pub returns : goal.returns
returns c = mixed_byte _ _ _ _ c.double.ensures c.double-2.ensures (search rules) (search rules) (search rules) (search rules)
