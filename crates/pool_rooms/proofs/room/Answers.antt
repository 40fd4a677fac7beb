-- `pool_rooms::room` meets its contract: from where the room begins, and how many of its bytes are there. Assumes nothing.
use mathlib.Core.Path.{refl}
use Rattle.pool_rooms.proofs.Places.{room_whole}
use Rattle.pool_rooms.proofs.room.Goals as goal

pub returns : goal.returns
returns c = room_whole c.args.rooms.now _ _ c.room_start.ensures.0 _ _ _ c.min-start.ensures refl c.min.ensures
