-- `expansion::Schedule::next_word` meets its contract: from the two words read and what is added. Assumes nothing.
use Rattle.expansion.proofs.Words.{next_made}
use Rattle.expansion.proofs.Schedule.next_word.Goals as goal

pub returns : goal.returns
returns c = next_made _ _ _ _ _ _ _ c.word-first.ensures c.word-last.ensures c.temp.ensures c.sum.ensures
