-- `cipher::serve` meets its contract: from the answers of the check, the work and the wipe. Assumes nothing.
use native.Mathlib.Omega.{arith}
use borrow.Author.Rules.{rules}
use Rattle.cipher.proofs.Promise.{block_refused, work_may, block_done}
use Rattle.cipher.proofs.serve.Goals as goal

pub returns-in_err-check : goal.returns-in_err-check
returns-in_err-check c = block_refused c.args.block.now c.args.mask.now c.args.round_keys.now c.args.strip.now _ c.check.ensures _ _ c.in_err-check.was _ (search rules)

pub work-requires : goal.work-requires
work-requires c = work_may c.args.block.now c.args.mask.now c.args.round_keys.now c.args.strip.now _ c.check.ensures _ c.in_ok-check.was

pub returns : goal.returns
returns c = block_done c.args.block.now c.args.mask.now c.args.round_keys.now c.args.strip.now _ c.check.ensures _ c.in_ok-check.was (λ j. omega (arith, c.slice_known-3-1.given j)) _ _ _ c.wipe.ensures _ c.work.ensures
