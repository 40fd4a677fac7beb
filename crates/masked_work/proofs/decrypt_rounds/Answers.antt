-- `masked_work::decrypt_rounds` meets its contract: the loop's invariant: so many rounds are worked. Assumes nothing.
use native.Mathlib.Omega.{arith}
use mathlib.Core.Path.{refl}
use Rattle.masked_work.proofs.Rounds.{inv_worked_none, inv_worked_more, inv_rounds_done}
use Rattle.masked_work.proofs.decrypt_rounds.Goals as goal

pub loop-done-init : goal.loop-done-init
loop-done-init c = record { bound = omega arith; long_d = refl; long_m = refl; is = inv_worked_none _ _ _ _ _ }

pub loop-done-preserved : goal.loop-done-preserved
loop-done-preserved c =
    let past = c.loop-done.invariant in
    record { bound = omega arith; long_d = omega arith; long_m = omega arith; is = inv_worked_more _ _ _ _ _ _ _ _ _ _ past.is c.decrypt_round.ensures }

pub returns : goal.returns
returns c =
    inv_rounds_done _ _ _ _ _ _ _ _ _ (omega arith) _ _ c.loop-done.invariant.is c.inverse_shift_rows.ensures c.add_round_key.ensures c.inverse_shift_rows-2.ensures
