-- `pool_taking::parts::hand_out` meets its contract: from the room's bytes copied, the room zeroed and the number written. Assumes nothing.
use mathlib.Core.Path.{◌∙◌, ap}
use native.Mathlib.Omega.{arith}
use lib.ListN.{length}
use Rattle.refusal.proofs.Part.{of_length}
use Rattle.pool_rooms.proofs.Places.{room_length}
use Rattle.pool_taking.proofs.Promise.{handed_out}
use Rattle.pool_taking.proofs.parts.hand_out.Goals as goal

pub copy_from_slice-requires : goal.copy_from_slice-requires
copy_from_slice-requires c = omega (arith, ap length c.room.ensures, room_length c.args.rooms.now c.args.n (omega arith))

pub returns : goal.returns
returns c = handed_out _ _ _ _ _ (of_length _ _ _ (omega arith) c.clear.ensures) c.write_number.ensures (c.copy_from_slice.ensures.after ∙ c.room.ensures)
