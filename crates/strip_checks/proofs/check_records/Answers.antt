-- `strip_checks::check_records` meets its contract: from the record that is read, or that none is left. Assumes nothing.
use mathlib.Core.Path.{◌∙◌}
use native.Mathlib.Omega.{arith}
use Rattle.strip_checks.proofs.Laws.{third_stop, third_on, third_all, refusing, passing}
use Rattle.strip_checks.proofs.check_records.Goals as goal

pub returns-then-is_bad : goal.returns-then-is_bad
returns-then-is_bad c =
    let step = c.in-Some.ensures.steps in
    let known = c.loop-record.invariant.1.1 in
    refusing _ _ (third_stop _ c.in-Some.record.now _ _ known.1 step.1.0 (step.1.1 ∙ known.0) c.if-is_bad.true)

pub loop-record-preserved : goal.loop-record-preserved
loop-record-preserved c =
    let step = c.in-Some.ensures.steps in
    let known = c.loop-record.invariant.1.1 in
    (omega (arith, step.0 ∙ known.0), (tt, (step.0 ∙ known.0, third_on _ c.in-Some.record.now _ _ known.1 step.1.0 (step.1.1 ∙ known.0) c.if-is_bad.false)))

pub returns : goal.returns
returns c =
    let step = c.in-None.ensures.steps in
    let known = c.loop-record.invariant.1.1 in
    passing _ _ (third_all _ _ known.1 (omega (arith, step.1.0, known.0)))
