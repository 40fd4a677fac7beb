-- `bare_sbox::substitute` meets its contract: from the tower's inverse being the standard's. Assumes nothing.
use Rattle.fips197.specs.Cipher.{affine, sbox}
use Rattle.fips197.specs.Field.{◌⊕◌}
use Rattle.bare_sbox.proofs.Claims.{inverse_is_field}
use Rattle.bare_sbox.proofs.substitute.Goals as goal

pub returns : goal.returns
unfolding sbox affine ◌⊕◌
returns c = cc (inverse_is_field c.args.b)
