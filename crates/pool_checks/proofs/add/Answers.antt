-- `pool_checks::add` meets its contract: where the strip's own check refuses, from what has passed before it. Assumes nothing.
use Rattle.std.proofs.lemmas.Result.{err_from_is_err_and}
use Rattle.pool_checks.proofs.Own.{own_refused}
use Rattle.pool_checks.proofs.add.Goals as goal

pub returns-in_err-check_own : goal.returns-in_err-check_own
returns-in_err-check_own c =
    let p = err_from_is_err_and c.from_residual-in_err-check_own.result c.from_residual-in_err-check_own.ensures.1 in
    rw (p.1, p.2, ← c.read-master.ensures) (own_refused c.args.strip.now _ _ c.in_err-check_own.ensures _ _ _ _ c.in_ok-check_lent.ensures c.in_ok-check_not_standby.ensures c.in_ok-check_sending.ensures)
