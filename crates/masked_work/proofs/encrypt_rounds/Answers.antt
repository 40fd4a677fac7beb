-- `masked_work::encrypt_rounds` meets its contract: the loop's invariant: so many rounds are worked. Assumes nothing.
use native.Mathlib.Omega.{arith}
use mathlib.Core.Path.{refl}
use Rattle.masked_work.proofs.Rounds.{worked_none, worked_more, rounds_done}
use Rattle.masked_work.proofs.encrypt_rounds.Goals as goal

pub loop-round-init : goal.loop-round-init
loop-round-init c = record { bound = omega arith; long_d = refl; long_m = refl; is = worked_none _ _ _ _ _ }

pub loop-round-preserved : goal.loop-round-preserved
loop-round-preserved c =
    let past = c.loop-round.invariant in
    record { bound = omega arith; long_d = omega arith; long_m = omega arith; is = worked_more _ _ _ _ _ _ _ _ _ _ past.is c.encrypt_round.ensures }

pub returns : goal.returns
returns c = rounds_done _ _ _ _ _ _ _ _ _ (omega arith) c.loop-round.invariant.is c.add_round_key.ensures
