-- `pool_sending::write_addition` meets its contract: from the strip in its room, and what is written before it. Assumes nothing.
use native.Mathlib.Omega.{arith}
use Prim.Native.Nat.{ℕ, ◌+◌}
use mathlib.Core.Path.{refl, ap, ◌∙◌}
use mathlib.Core.List.{List}
use lib.ListN.{length}
use Rattle.pool_rooms.specs.Rooms.{padded, strip_in}
use Rattle.pool_message.specs.Message.{addition}
use Rattle.pool_sending.proofs.Written.{addition_made, strip_fits}
use Rattle.pool_sending.proofs.write_addition.Goals as goal

pub slice_bounds-copy_from_slice-end : goal.slice_bounds-copy_from_slice-end
slice_bounds-copy_from_slice-end c = omega (arith, strip_fits c.args.rooms.now _ _ _ c.room.ensures c.strip_in-strip.ensures, ap (λ (l : List ℕ). length l) c.requires.message_value)

pub returns : goal.returns
returns c =
    addition_made _ _ _ _ _ _ _ _ c.strip_in-strip.ensures refl c.requires.message_value c.copy_from_slice.ensures.after c.write_front.ensures
    ∙ ap (λ x. padded 688 (addition (c.args.master.added + c.args.master.taken) c.args.master.added (strip_in x))) c.room.ensures
