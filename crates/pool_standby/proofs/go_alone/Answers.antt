-- `pool_standby::go_alone` meets its contract: from its check, then its step. Assumes nothing.
use Rattle.pool_standby.specs.Calls.{go_alone_of}
use mathlib.Core.Path.{refl}
use Rattle.std.proofs.lemmas.Result.{err_from_is_err_and}
use Rattle.refusal.proofs.First.{call_refused, call_passes, call_done}
use Rattle.pool_standby.proofs.go_alone.Goals as goal

pub returns-in_err-go_alone : goal.returns-in_err-go_alone
unfolding go_alone_of
returns-in_err-go_alone c =
    let p = err_from_is_err_and c.from_residual.result c.from_residual.ensures.1 in
    rw (p.1, p.2) (call_refused _ c.args.state.now _ _ c.in_err-go_alone.ensures _ refl)

pub write_alone-requires : goal.write_alone-requires
write_alone-requires c = call_passes _ _ c.in_ok-go_alone.ensures _ refl

pub returns : goal.returns
unfolding go_alone_of
returns c = call_done _ c.args.state.now _ _ c.in_ok-go_alone.ensures _ refl _ c.write_alone.ensures
