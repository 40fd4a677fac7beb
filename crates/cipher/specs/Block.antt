-- What a block call answers: the first refusal, or FIPS 197 under the outgoing mask.
use Rattle.std.specs.Prelude.{ℕ, List, length, Ok, Err}
use Rattle.fips197.specs.Cipher.{◌⊞◌, cipher, inv_cipher}
use Rattle.refusal.specs.Answer.{Answer, first}
use Rattle.strip.specs.Strip.{wiped}
use Rattle.sbox.specs.declared.Direction.{Direction}
use Rattle.sbox.specs.declared.Direction.TheVariants.{Encrypt, Decrypt}
use Rattle.block_checks.specs.Checks.{rounds_in, checks}
use Rattle.masked_rounds.specs.Outgoing.{outgoing}

-- the cipher of FIPS 197 over these round keys, and its inverse
unfoldable pub bare_block : Direction → List ℕ → List ℕ → List ℕ
bare_block Encrypt w b = cipher (rounds_in (length w)) w b
bare_block Decrypt w b = inv_cipher (rounds_in (length w)) w b

-- Answer, block, mask and strip: FIPS 197 of the block without its mask, under the outgoing mask, and the strip wiped; or the first refusal, and all as it was.
unfoldable pub block_of : Direction → List ℕ → List ℕ → List ℕ → List ℕ → Answer (Unit {0}) × (List ℕ × (List ℕ × List ℕ))
block_of dir d m w s =
    let out = outgoing dir s (rounds_in (length w)) in
    first (checks (length d) (length m) (length w) s) (λ r. (Err r, (d, (m, s)))) (Ok tt, (bare_block dir w (d ⊞ m) ⊞ out, (out, wiped s)))
