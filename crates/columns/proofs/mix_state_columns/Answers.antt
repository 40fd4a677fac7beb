-- `columns::mix_state_columns` meets its contract: from the four columns one after the other. Assumes nothing.
use native.Mathlib.Omega.{arith}
use Rattle.columns.proofs.Columns.{columns_stored}
use Rattle.columns.proofs.mix_state_columns.Goals as goal

pub returns : goal.returns
returns c =
    columns_stored _ _ _ _ _ _ (omega arith) c.mix_column_by.ensures c.mix_column_by-2.ensures c.mix_column_by-3.ensures
    c.mix_column_by-4.ensures
