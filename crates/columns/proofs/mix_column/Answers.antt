-- `columns::mix_column` meets its contract: from the four bytes stored. Assumes nothing.
use native.Mathlib.Omega.{arith}
use Rattle.columns.proofs.Columns.{column_stored}
use Rattle.columns.proofs.mix_column.Goals as goal

pub returns : goal.returns
returns c =
    column_stored _ _ _ _ _ _ (omega arith) c.mix_byte.ensures c.mix_byte-2.ensures
    c.mix_byte-3.ensures c.mix_byte-4.ensures
