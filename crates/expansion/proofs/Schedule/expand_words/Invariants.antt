-- `expansion::Schedule::expand_words` meets its contract: the loop's invariant: the words so far, and behind them the rest as it was.
use Rattle.expansion.proofs.Grown.{Grew}
use Rattle.expansion.proofs.Schedule.expand_words.Given as goal

abbrev pub invariant-loop-i : goal.invariant-loop-i
invariant-loop-i l = Grew l.initial.w l.self.nk l.words l.w l.i
