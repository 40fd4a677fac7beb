-- The masked block round by round, data and mask apart, from the steps as the calls promise them.
use Rattle.std.specs.Prelude.{ℕ, zero, suc, ◌-◌, List, eqb}
use Rattle.fips197.specs.Cipher.{shift_rows, mix_columns, inv_shift_rows}
use Rattle.aes.specs.Steps.{on_state, keyed}
use Rattle.sbox.specs.declared.Direction.TheVariants.{Encrypt, Decrypt}
use Rattle.masked_steps.specs.Steps.{Parts, masked_sub_bytes, except_last, restored}

abbrev pub each : (List ℕ → List ℕ) → Parts → Parts
each f b = (f b.0, f b.1)

-- the round key is added to the data only
unfoldable pub masked_add_round_key : List ℕ → ℕ → Parts → Parts
masked_add_round_key w round b = (keyed b.0 w round, b.1)

-- the work of round n, from 0, of nr, the columns mixed in every round but the last; and the parts after n rounds of nr, once a first round key is added
module _ (w s : List ℕ) (nr : ℕ) where
  unfoldable pub round_worked : ℕ → Parts → Parts
  round_worked n b =
      masked_add_round_key w (suc n) (each (except_last (eqb (suc n) nr) (on_state mix_columns)) (each (on_state shift_rows) (masked_sub_bytes Encrypt s n b)))

  unfoldable pub worked : ℕ → Parts → Parts
  worked zero b = b
  worked (suc n) b = round_worked n (worked n b)

  unfoldable pub masked_cipher : Parts → Parts
  masked_cipher b = worked nr (masked_add_round_key w 0 b)

  -- decrypting, the rows are back when a round begins, and the round keys are counted down
  unfoldable pub inv_round_worked : ℕ → Parts → Parts
  inv_round_worked n b = each (except_last (eqb (suc n) nr) restored) (masked_add_round_key w (nr - suc n) (masked_sub_bytes Decrypt s n b))

  unfoldable pub inv_worked : ℕ → Parts → Parts
  inv_worked zero b = b
  inv_worked (suc n) b = inv_round_worked n (inv_worked n b)

  unfoldable pub masked_inv_cipher : Parts → Parts
  masked_inv_cipher b = inv_worked nr (each (on_state inv_shift_rows) (masked_add_round_key w nr b))
