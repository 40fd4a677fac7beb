-- `aes::add_key` meets its contract: the bytes passed are sums, the rest as they were. Assumes nothing.
use native.Mathlib.Omega.{arith}
use Rattle.fips197.proofs.State.{length_plus}
use Rattle.aes.proofs.Front.{front_none, front_step, front_done, sum_next}
use Rattle.aes.proofs.add_key.Goals as goal

pub loop-i-init : goal.loop-i-init
loop-i-init c = front_none _ _

pub loop-i-preserved : goal.loop-i-preserved
loop-i-preserved c =
    let known = c.loop-i.invariant in
    front_step _ _ _ _ known (length_plus _ _ (omega arith)) _ (omega arith) (sum_next _ _ _ _ known (omega arith) (omega arith))

pub returns : goal.returns
returns c = front_done _ _ _ _ c.loop-i.invariant (length_plus _ _ (omega arith)) (omega arith)
