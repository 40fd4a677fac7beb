-- `pool_taking::steps::acknowledge` meets its contract: by whether the number counts, from the state written and what is handed out. Assumes nothing.
use native.Mathlib.Omega.{arith}
use mathlib.Core.Path.{refl}
use Rattle.refusal.proofs.Part.{of_length}
use Rattle.pool_taking.specs.Taking.{handing_none}
use Rattle.pool_taking.proofs.Promise.{acknowledge_may, acknowledge_other, acknowledge_counts, settled}
use Rattle.pool_taking.proofs.steps.acknowledge.Goals as goal

pub write_number-requires : goal.write_number-requires
write_number-requires c = (acknowledge_may c.args.state.now c.args.rooms.now c.args.acknowledgement.now c.args.number.now c.args.strip.now c.requires).1.0

pub returns-then-not-counted : goal.returns-then-not-counted
returns-then-not-counted c =
    acknowledge_other c.args.state.now c.args.rooms.now c.args.acknowledgement.now c.args.strip.now _ c.read-master.ensures _ c.read.ensures _ c.sequence_of-sequence.ensures _ c.counted.ensures _ c.if-not-counted.true c.write_number.ensures

pub hand_out-requires : goal.hand_out-requires
hand_out-requires c =
    let may = acknowledge_may c.args.state.now c.args.rooms.now c.args.acknowledgement.now c.args.number.now c.args.strip.now c.requires in
    record { rooms_len = (may.0.1, may.1.0); strip_len = (may.1.1, omega (arith, c.saturating_sub.ensures)) }

pub returns-then-is : goal.returns-then-is
returns-then-is c =
    let nine = (acknowledge_may c.args.state.now c.args.rooms.now c.args.acknowledgement.now c.args.number.now c.args.strip.now c.requires).0.0 in
    acknowledge_counts c.args.state.now c.args.rooms.now c.args.acknowledgement.now c.args.strip.now _ c.read-master.ensures _ c.read.ensures _ c.sequence_of-sequence.ensures _ c.counted.ensures _ c.if-not-counted.false
    (settled _ c.args.rooms.now c.args.strip.now _ _ _ _ (of_length _ c.args.state.now _ nine c.write.ensures) c.saturating_sub.ensures c.is.ensures (rw c.if-is.true c.hand_out.ensures))

pub write_number-requires-else-is : goal.write_number-requires-else-is
write_number-requires-else-is c = (acknowledge_may c.args.state.now c.args.rooms.now c.args.acknowledgement.now c.args.number.now c.args.strip.now c.requires).1.0

pub returns-else-is : goal.returns-else-is
unfolding handing_none
returns-else-is c =
    let nine = (acknowledge_may c.args.state.now c.args.rooms.now c.args.acknowledgement.now c.args.number.now c.args.strip.now c.requires).0.0 in
    acknowledge_counts c.args.state.now c.args.rooms.now c.args.acknowledgement.now c.args.strip.now _ c.read-master.ensures _ c.read.ensures _ c.sequence_of-sequence.ensures _ c.counted.ensures _ c.if-not-counted.false
    (settled _ c.args.rooms.now c.args.strip.now _ _ _ _ (of_length _ c.args.state.now _ nine c.write.ensures) refl c.is.ensures (rw (c.if-is.false, c.write_number-else-is.ensures) refl))
