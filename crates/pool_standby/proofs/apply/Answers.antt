-- `pool_standby::apply` meets its contract: from its check, then its step. Assumes nothing.
use Rattle.pool_standby.specs.Calls.{apply_of}
use mathlib.Core.Path.{refl}
use Rattle.std.proofs.lemmas.Result.{err_from_is_err_and}
use Rattle.refusal.proofs.First.{call_refused, call_passes, call_done}
use Rattle.pool_standby.proofs.apply.Goals as goal

pub returns-in_err-apply : goal.returns-in_err-apply
unfolding apply_of
returns-in_err-apply c =
    let p = err_from_is_err_and c.from_residual.result c.from_residual.ensures.1 in
    rw (p.1, p.2) (call_refused _ (c.args.state.now, (c.args.rooms.now, c.args.acknowledgement.now)) _ _ c.in_err-apply.ensures _ refl)

pub apply_message-requires : goal.apply_message-requires
apply_message-requires c = call_passes _ _ c.in_ok-apply.ensures _ refl

pub returns : goal.returns
unfolding apply_of
returns c = call_done _ (c.args.state.now, (c.args.rooms.now, c.args.acknowledgement.now)) _ _ c.in_ok-apply.ensures _ refl _ c.apply_message.ensures
