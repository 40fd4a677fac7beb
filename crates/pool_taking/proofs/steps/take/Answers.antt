-- `pool_taking::steps::take` meets its contract: from what its checks leave, the state written and what is handed out. Assumes nothing.
use native.Mathlib.Omega.{arith}
use mathlib.Core.Path.{refl}
use Rattle.refusal.proofs.Part.{of_length}
use Rattle.pool_taking.specs.Taking.{handing_none}
use Rattle.pool_taking.proofs.Promise.{take_nine, take_one, take_may, take_done}
use Rattle.pool_taking.proofs.steps.take.Goals as goal

pub overflow_add-new : goal.overflow_add-new
overflow_add-new c = omega (arith, take_one c.args.state.now c.args.rooms.now c.args.number.now c.args.strip.now c.requires _ c.read-master.ensures)

pub hand_out-requires : goal.hand_out-requires
hand_out-requires c =
    let l = take_may c.args.state.now c.args.rooms.now c.args.number.now c.args.strip.now c.requires _ c.read-master.ensures (omega arith) in
    record { rooms_len = l.0; strip_len = l.1 }

pub write_number-requires : goal.write_number-requires
write_number-requires c = (take_may c.args.state.now c.args.rooms.now c.args.number.now c.args.strip.now c.requires _ c.read-master.ensures (omega arith)).0.1

pub returns-then-is : goal.returns-then-is
returns-then-is c =
    take_done c.args.state.now c.args.rooms.now c.args.number.now c.args.strip.now c.requires _ c.read-master.ensures _ _ _ _ c.role_sending-role.ensures
    (of_length _ _ _ (take_nine c.args.state.now c.args.rooms.now c.args.number.now c.args.strip.now c.requires _ c.read-master.ensures) c.write.ensures)
    c.is.ensures (rw c.if-is.true c.hand_out.ensures)

pub returns-else-is : goal.returns-else-is
unfolding handing_none
returns-else-is c =
    take_done c.args.state.now c.args.rooms.now c.args.number.now c.args.strip.now c.requires _ c.read-master.ensures _ _ _ _ c.role_sending-role.ensures
    (of_length _ _ _ (take_nine c.args.state.now c.args.rooms.now c.args.number.now c.args.strip.now c.requires _ c.read-master.ensures) c.write.ensures)
    c.is.ensures (rw (c.if-is.false, c.write_number.ensures) refl)
