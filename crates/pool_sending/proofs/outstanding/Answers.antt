-- `pool_sending::outstanding` meets its contract: from its check, then its step. Assumes nothing.
use Rattle.pool_sending.specs.Outstanding.{outstanding_of}
use mathlib.Core.Path.{refl}
use Rattle.std.proofs.lemmas.Result.{err_from_is_err_and}
use Rattle.refusal.proofs.First.{call_refused, call_passes, call_done}
use Rattle.pool_sending.proofs.outstanding.Goals as goal

pub returns-in_err-outstanding : goal.returns-in_err-outstanding
unfolding outstanding_of
returns-in_err-outstanding c =
    let p = err_from_is_err_and c.from_residual.result c.from_residual.ensures.1 in
    rw (p.1, p.2) (call_refused _ c.args.message.now _ _ c.in_err-outstanding.ensures _ refl)

pub write_message-requires : goal.write_message-requires
write_message-requires c = call_passes _ _ c.in_ok-outstanding.ensures _ refl

pub returns : goal.returns
unfolding outstanding_of
returns c = call_done _ c.args.message.now _ _ c.in_ok-outstanding.ensures _ refl _ c.write_message.ensures
