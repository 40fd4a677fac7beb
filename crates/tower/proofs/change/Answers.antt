-- `tower::change` meets its contract: from what the columns passed and the rest add up to. Assumes nothing.
use native.Mathlib.Omega.{arith}
use Rattle.fips197.specs.Field.{◌⊕◌}
use Rattle.fips197.proofs.Xor.{zero_l}
use Rattle.tower.proofs.Leaf.{change_next, change_all}
use Rattle.tower.proofs.change.Goals as goal

pub loop-i-init : goal.loop-i-init
loop-i-init c = zero_l _

pub loop-i-preserved : goal.loop-i-preserved
unfolding ◌⊕◌
loop-i-preserved c = change_next _ _ c.loop-i.i c.loop-i.sum _ c.told-columns (omega arith) c.column_at-sum.ensures c.loop-i.invariant

pub returns : goal.returns
returns c = change_all _ _ c.loop-i.i _ c.told-columns (omega arith) c.loop-i.invariant
