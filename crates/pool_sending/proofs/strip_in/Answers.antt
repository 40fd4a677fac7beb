-- `pool_sending::strip_in` meets its contract: from the length field, held to the size of the room. Assumes nothing.
use native.Mathlib.Omega.{arith}
use Rattle.pool_sending.proofs.Written.{strip_cut}
use Rattle.pool_sending.proofs.strip_in.Goals as goal

pub returns : goal.returns
returns c = strip_cut c.args.room.now c.from-size.result _ (omega (arith, c.from-size.ensures, c.from_be_bytes.ensures, c.byte_at.ensures, c.byte_at-2.ensures)) c.min.ensures
