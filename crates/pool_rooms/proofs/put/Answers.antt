-- `pool_rooms::put` meets its contract: by the lengths, then from what is left in the part that is the room. Assumes nothing.
use mathlib.Core.Path.{refl}
use native.Mathlib.Omega.{arith}
use Rattle.refusal.proofs.Part.{on_length_law, off_length}
use Rattle.pool_rooms.proofs.Places.{put_in, too_long, room_filled}
use Rattle.pool_rooms.proofs.put.Goals as goal

pub returns-then-rooms-ne-ROOMS_SIZE : goal.returns-then-rooms-ne-ROOMS_SIZE
returns-then-rooms-ne-ROOMS_SIZE c = off_length _ _ _ (λ h. omega arith) refl

pub returns-then-strip-gt-ROOM_SIZE : goal.returns-then-strip-gt-ROOM_SIZE
returns-then-strip-gt-ROOM_SIZE c = on_length_law _ _ _ (omega arith) (too_long _ _ _ _ (omega arith) refl)

pub returns : goal.returns
returns c = on_length_law _ c.args.rooms.now _ (omega arith) (put_in _ _ _ _ (omega arith) (room_filled _ _ _ c.room_start-start.ensures.0 _ _ (omega (arith, c.room_start-start.ensures.1)) c.fill.ensures))
