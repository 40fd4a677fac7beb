-- `columns::inverse_mix_column` meets its contract: from the four bytes stored and the doublings that they share. Assumes nothing.
use native.Mathlib.Omega.{arith}
use lib.ListN.{get_or}
use Rattle.columns.proofs.Bytes.{inverse_bytes}
use Rattle.columns.proofs.Columns.{column_stored}
use Rattle.columns.proofs.inverse_mix_column.Goals as goal

pub returns : goal.returns
returns c =
    let l = c.args.column.now in
    let byte = c.slice_known-1.given in
    let is = inverse_bytes (get_or l 0 0) (get_or l 1 0) (get_or l 2 0) (get_or l 3 0) (omega (arith, byte 0)) (omega (arith, byte 1)) (omega (arith, byte 2)) (omega (arith, byte 3))
    c.double-x.ensures c.double-y.ensures c.double-z.ensures c.double-w.ensures in
    column_stored _ _ _ _ _ _ (omega arith) is.0 is.1.0 is.1.1.0 is.1.1.1
