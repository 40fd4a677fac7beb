-- `pool_adding::add` meets its contract: from its check, then its step. Assumes nothing.
use mathlib.Core.Path.{refl}
use Rattle.std.proofs.lemmas.Result.{err_from_is_err_and}
use Rattle.refusal.proofs.First.{call_refused, call_passes, call_done}
use Rattle.pool_adding.specs.Adding.{add_of}
use Rattle.pool_adding.proofs.add.Goals as goal

pub returns-in_err-add : goal.returns-in_err-add
unfolding add_of
returns-in_err-add c =
    let p = err_from_is_err_and c.from_residual.result c.from_residual.ensures.1 in
    rw (p.1, p.2) (call_refused _ (c.args.state.now, c.args.rooms.now) _ _ c.in_err-add.ensures _ refl)

pub add_admitted-requires : goal.add_admitted-requires
add_admitted-requires c = call_passes _ _ c.in_ok-add.ensures _ refl

pub returns : goal.returns
unfolding add_of
returns c = call_done _ (c.args.state.now, c.args.rooms.now) _ _ c.in_ok-add.ensures _ refl _ c.add_admitted.ensures
