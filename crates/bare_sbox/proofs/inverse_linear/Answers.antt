-- `bare_sbox::inverse_linear` meets its contract: from the computed test over all bytes. Assumes nothing.
use borrow.Author.Rules.{rules}
use Rattle.bare_sbox.proofs.Turned.{inverse_linear_made}
use Rattle.bare_sbox.proofs.inverse_linear.Goals as goal

pub returns : goal.returns
returns c = inverse_linear_made c.args.x (search rules)
