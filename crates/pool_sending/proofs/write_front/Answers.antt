-- `pool_sending::write_front` meets its contract: from both parts of the twelve bytes, copied. Assumes nothing.
use mathlib.Core.Path.{◌∙◌}
use Rattle.pool_sending.proofs.Written.{front_copied}
use Rattle.pool_sending.proofs.write_front.Goals as goal

pub returns : goal.returns
returns c = front_copied _ _ _ _ _ _ c.args.message.now (c.copy_from_slice.ensures.after ∙ c.front_bytes.ensures) (c.copy_from_slice-2.ensures.after ∙ c.number_bytes.ensures)
