-- The mask that a block leaves under: from the records of the last round worked.
use Rattle.std.specs.Prelude.{ℕ, ◌+◌, ◌-◌, ◌*◌, List}
use Rattle.fips197.specs.Cipher.{state, shift_rows}
use Rattle.sbox.specs.declared.Direction.{Direction}
use Rattle.sbox.specs.declared.Direction.TheVariants.{Encrypt, Decrypt}
use Rattle.sbox.specs.Sbox.{new_mask}
use Rattle.masked_steps.specs.Steps.{record_at}

-- what the S-boxes of a round worked, from 0, leave as masks: sixteen records a round, by position in the state
unfoldable pub new_masks : Direction → List ℕ → ℕ → List ℕ
new_masks dir s n = state (λ r c. new_mask dir (record_at s (16 * n + (r + 4 * c))))

-- the outgoing mask is that of the last round worked; encrypting, the rows are still shifted, on data and mask alike
unfoldable pub outgoing : Direction → List ℕ → ℕ → List ℕ
outgoing Encrypt s nr = shift_rows (new_masks Encrypt s (nr - 1))
outgoing Decrypt s nr = new_masks Decrypt s (nr - 1)
