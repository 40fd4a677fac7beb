-- `expansion::word` meets its contract: from the four bytes read. Assumes nothing.
use borrow.Author.Rules.{rules}
use Rattle.expansion.proofs.Words.{word_read}
use Rattle.expansion.proofs.word.Goals as goal

pub returns : goal.returns
returns c = word_read _ _ (search rules)
