-- `words::sum` meets its contract: from the four sums of bytes. Assumes nothing.
use borrow.Author.Rules.{rules}
use Rattle.words.proofs.Words.{sum_made}
use Rattle.words.proofs.sum.Goals as goal

pub returns : goal.returns
returns c = sum_made _ _ (search rules) (search rules)
