-- `pool_taking::acknowledge` meets its contract: from its check, then its step. Assumes nothing.
use mathlib.Core.Path.{refl}
use Rattle.std.proofs.lemmas.Result.{err_from_is_err_and}
use Rattle.refusal.proofs.First.{call_refused, call_passes, call_done}
use Rattle.pool_taking.specs.Taking.{acknowledge_of}
use Rattle.pool_taking.proofs.acknowledge.Goals as goal

pub returns-in_err-acknowledge : goal.returns-in_err-acknowledge
unfolding acknowledge_of
returns-in_err-acknowledge c =
    let p = err_from_is_err_and c.from_residual.result c.from_residual.ensures.1 in
    rw (p.1, p.2) (call_refused _ (c.args.state.now, (c.args.rooms.now, (c.args.number.now, c.args.strip.now))) _ _ c.in_err-acknowledge.ensures _ refl)

pub acknowledge-requires-2 : goal.acknowledge-requires-2
acknowledge-requires-2 c = call_passes _ _ c.in_ok-acknowledge.ensures _ refl

pub returns : goal.returns
unfolding acknowledge_of
returns c = call_done _ (c.args.state.now, (c.args.rooms.now, (c.args.number.now, c.args.strip.now))) _ _ c.in_ok-acknowledge.ensures _ refl _ c.acknowledge-2.ensures
