-- `words::sub_word` meets its contract: from the four bytes substituted. Assumes nothing.
use Rattle.words.proofs.Words.{sub_made}
use Rattle.words.proofs.sub_word.Goals as goal

pub returns : goal.returns
returns c = sub_made _ _ _ _ _ c.substitute.ensures c.substitute-2.ensures c.substitute-3.ensures c.substitute-4.ensures
