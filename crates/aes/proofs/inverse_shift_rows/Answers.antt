-- `aes::inverse_shift_rows` meets its contract: from the test of the length, and the three rows in turn. Assumes nothing.
use mathlib.Core.Path.{refl}
use Rattle.aes.proofs.Rows.{rows_shifted_back}
use Rattle.refusal.proofs.Part.{on_length_law, off_length}
use Rattle.aes.proofs.inverse_shift_rows.Goals as goal

pub returns-then-part-eq16 : goal.returns-then-part-eq16
returns-then-part-eq16 c =
    let long = c.if-part-eq16.true in
    on_length_law _ _ _ long
    (rows_shifted_back _ _ _ _ long c.turn_row.ensures c.turn_row-then-part-eq16.ensures c.turn_row-then-part-eq16-2.ensures)

pub returns-else-part-eq16 : goal.returns-else-part-eq16
returns-else-part-eq16 c = off_length _ _ _ c.if-part-eq16.false refl
