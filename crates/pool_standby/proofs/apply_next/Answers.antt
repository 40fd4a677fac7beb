-- `pool_standby::apply_next` meets its contract: by what the message is, the room and the state written. Assumes nothing.
use native.Mathlib.Omega.{arith}
use Rattle.refusal.proofs.Part.{of_length}
use Rattle.pool_rooms.proofs.Places.{put_whole}
use Rattle.pool_message.proofs.Laws.{adds_long}
use mathlib.Core.Path.{sym, ap, ◌∙◌}
use Rattle.std.specs.Prelude.{Some}
use Rattle.pool_standby.proofs.Applied.{fits_room, applied_adds, applied_takes, fits_no_acknowledgement}
use Rattle.pool_standby.proofs.apply_next.Goals as goal

pub slice_bounds-put-count : goal.slice_bounds-put-count
slice_bounds-put-count c = adds_long c.args.message.now _ _ (sym c.requires.asked_value.0 ∙ ap Some c.in-Adds.is)

pub slice_bounds-put-start : goal.slice_bounds-put-start
slice_bounds-put-start c = adds_long c.args.message.now _ _ (sym c.requires.asked_value.0 ∙ ap Some c.in-Adds.is)

pub returns-in-Adds : goal.returns-in-Adds
returns-in-Adds c = applied_adds c.args.master c.args.asked c.args.message.now _ _ c.args.rooms.now _ _ c.in-Adds.is (of_length _ c.args.state.now _ (omega arith) c.write.ensures) (put_whole _ _ _ _ (omega arith) (fits_room c.args.master c.args.asked c.args.message.now _ _ c.requires.asked_value.1 c.in-Adds.is) c.put.ensures)

pub returns-in-Takes : goal.returns-in-Takes
returns-in-Takes c = applied_takes c.args.master c.args.asked c.args.message.now _ _ c.args.rooms.now _ _ c.in-Takes.is (of_length _ c.args.state.now _ (omega arith) c.write-in-Takes.ensures) (of_length _ _ _ (omega arith) c.clear.ensures)

pub returns-in-Acknowledges : goal.returns-in-Acknowledges
returns-in-Acknowledges c = fits_no_acknowledgement c.args.master c.args.asked c.args.message.now _ c.requires.asked_value.1 c.in-Acknowledges.is
