-- `columns::double` meets its contract: by the computed test over all bytes. Assumes nothing.
use Rattle.columns.proofs.Bytes.{doubled}
use borrow.Author.Rules.{rules}
use Rattle.columns.proofs.double.Goals as goal

pub returns : goal.returns
returns c = doubled c.args.b (search rules)
