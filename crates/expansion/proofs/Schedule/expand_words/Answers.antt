-- `expansion::Schedule::expand_words` meets its contract: the loop's invariant: the words so far, and behind them the rest as it was. Assumes nothing.
use native.Mathlib.Omega.{arith}
use borrow.Author.Rules.{rules}
use Rattle.expansion.proofs.Grown.{grew_none, grew_more}
use Rattle.expansion.proofs.Schedule.expand_words.Goals as goal

pub loop-i-init : goal.loop-i-init
loop-i-init c = grew_none _ _ _ (omega arith) (omega arith)

pub loop-i-preserved : goal.loop-i-preserved
loop-i-preserved c =
    grew_more _ _ _ _ c.next_word-next.result _ _ c.loop-i.invariant (omega arith) c.next_word-next.ensures (search rules) c.copy_from_slice.ensures.after
