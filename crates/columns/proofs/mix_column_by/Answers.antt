-- `columns::mix_column_by` meets its contract: from the test of the direction. Assumes nothing.
use Rattle.columns.proofs.Columns.{column_back, column_forth}
use Rattle.columns.proofs.mix_column_by.Goals as goal

pub returns-then-inverse : goal.returns-then-inverse
returns-then-inverse c = column_back _ _ _ c.if-inverse.true c.inverse_mix_column.ensures

pub returns-else-inverse : goal.returns-else-inverse
returns-else-inverse c = column_forth _ _ _ c.if-inverse.false c.mix_column.ensures
