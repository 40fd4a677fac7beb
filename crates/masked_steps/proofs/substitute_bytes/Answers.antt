-- `masked_steps::substitute_bytes` meets its contract: the bytes passed are substituted, the rest as they were. Assumes nothing.
use native.Mathlib.Omega.{arith}
use Rattle.masked_steps.proofs.Substitution.{went_no_data, went_no_mask, went_none, went_more, went_all}
use Rattle.masked_steps.proofs.substitute_bytes.Goals as goal

pub returns-then-block-ne16 : goal.returns-then-block-ne16
returns-then-block-ne16 c = went_no_data _ _ _ _ _ c.if-block-ne16.true

pub returns-then-mask-ne16 : goal.returns-then-mask-ne16
returns-then-mask-ne16 c = went_no_mask _ _ _ _ _ (omega arith) c.if-mask-ne16.true

pub loop-position-init : goal.loop-position-init
loop-position-init c = went_none _ _ _ _ _ (omega arith) (omega arith)

pub loop-position-preserved : goal.loop-position-preserved
loop-position-preserved c = went_more _ _ _ _ _ _ _ _ (omega arith) (omega arith) c.loop-position.invariant _ _ _ _ _ (omega arith) c.record_at-record.ensures c.substitute_in_place.ensures

pub returns : goal.returns
returns c = went_all _ _ _ _ _ _ _ _ (omega arith) (omega arith) c.loop-position.invariant (omega arith)
