-- What the rounds of a direction come to, for a private contract. No promise rests on this.
use Rattle.std.specs.Prelude.{ℕ, List, length}
use Rattle.sbox.specs.declared.Direction.{Direction}
use Rattle.sbox.specs.declared.Direction.TheVariants.{Encrypt, Decrypt}
use Rattle.block_checks.specs.Checks.{rounds_in}
use Rattle.masked_steps.specs.Steps.{Parts}
use Rattle.masked_rounds.specs.Rounds.{masked_cipher, masked_inv_cipher}

unfoldable pub worked_in : Direction → List ℕ → List ℕ → Parts → Parts
worked_in Encrypt w s b = masked_cipher w s (rounds_in (length w)) b
worked_in Decrypt w s b = masked_inv_cipher w s (rounds_in (length w)) b
