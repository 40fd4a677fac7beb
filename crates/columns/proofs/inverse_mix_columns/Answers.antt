-- `columns::inverse_mix_columns` meets its contract: from the test of the length. Assumes nothing.
use mathlib.Core.Path.{refl, ◌∙◌}
use Rattle.columns.proofs.Columns.{inverse_mixed}
use Rattle.refusal.proofs.Part.{on_length_law, off_length}
use Rattle.columns.proofs.inverse_mix_columns.Goals as goal

pub returns-then-part-eq16 : goal.returns-then-part-eq16
returns-then-part-eq16 c =
    let long = c.if-part-eq16.true in
    on_length_law _ _ _ long (c.mix_state_columns.ensures ∙ inverse_mixed _ long)

pub returns-else-part-eq16 : goal.returns-else-part-eq16
returns-else-part-eq16 c = off_length _ _ _ c.if-part-eq16.false refl
