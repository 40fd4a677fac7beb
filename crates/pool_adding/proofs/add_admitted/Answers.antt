-- `pool_adding::add_admitted` meets its contract: from what its checks leave, the room filled and the state written. Assumes nothing.
use native.Mathlib.Omega.{arith}
use Rattle.pool_rooms.proofs.Places.{put_whole}
use Rattle.refusal.proofs.Part.{of_length}
use Rattle.pool_adding.proofs.Promise.{add_may, added_so, add_done}
use Rattle.pool_adding.proofs.add_admitted.Goals as goal

pub overflow_add-new : goal.overflow_add-new
overflow_add-new c = omega (arith, (add_may c.args.state.now c.args.rooms.now c.args.strip.now c.requires _ c.read-master.ensures).1.1)

pub returns : goal.returns
returns c =
    let may = add_may c.args.state.now c.args.rooms.now c.args.strip.now c.requires _ c.read-master.ensures in
    let state = of_length _ c.args.state.now _ may.0.0 c.write.ensures in
    let rooms = put_whole _ _ _ _ may.0.1 may.1.0 c.put.ensures in
    add_done c.args.state.now c.args.rooms.now c.args.strip.now c.requires _ c.read-master.ensures _ _ c.role_sending-role.ensures (added_so _ _ c.args.rooms.now c.args.strip.now _ _ state rooms)
