-- `bare_sbox::linear` meets its contract: from the computed test over all bytes. Assumes nothing.
use borrow.Author.Rules.{rules}
use Rattle.bare_sbox.proofs.Turned.{linear_made}
use Rattle.bare_sbox.proofs.linear.Goals as goal

pub returns : goal.returns
returns c = linear_made c.args.x (search rules)
