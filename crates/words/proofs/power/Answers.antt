-- `words::power` meets its contract: from the doubling of each turn. Assumes nothing.
use Rattle.words.proofs.Words.{power_none, power_more}
use Rattle.words.proofs.power.Goals as goal

pub loop-init : goal.loop-init
loop-init c = power_none

pub loop-preserved : goal.loop-preserved
loop-preserved c = power_more _ _ _ c.loop.invariant c.double-b.ensures
