-- `pool_rooms::fill` meets its contract: from zeros with the bytes copied over them. Assumes nothing.
use lib.Seq.{take-length}
use Rattle.pool_rooms.proofs.Places.{padded_is}
use Rattle.pool_rooms.proofs.fill.Goals as goal

pub returns : goal.returns
returns c = padded_is c.args.from.now c.args.part.now _ _ c.zero.ensures (rw (c.copy_from_slice.ensures.after, take-length c.args.from.now))
