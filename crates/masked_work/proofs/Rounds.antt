-- The work of a round from what its steps promise, and one round more at a time. Assumes nothing.
use Prim.Native.Nat.{ℕ, ◌+◌, ◌-◌, ◌≤◌}
use native.Mathlib.Numerals.{add-one}
use mathlib.Core.Path.{◌≡◌, refl, ap, ◌∙◌}
use mathlib.Core.List.{List}
use lib.ListN.{length}
use lib.Dec.{eqb}
use Rattle.fips197.specs.Cipher.{shift_rows, mix_columns, inv_shift_rows}
use Rattle.aes.specs.Steps.{on_state, keyed}
use Rattle.sbox.specs.declared.Direction.TheVariants.{Encrypt, Decrypt}
use Rattle.masked_steps.specs.Steps.{Parts, masked_sub_bytes, except_last, restored}
use Rattle.masked_rounds.specs.Rounds.{masked_add_round_key, round_worked, worked, masked_cipher, inv_round_worked, inv_worked, masked_inv_cipher}

-- the steps of one round: d, m and what they become
module _ (w s : List ℕ) (nr n : ℕ) (d m d1 m1 d2 m2 d3 : List ℕ) where
  pub round_done : (m3 d4 : List ℕ) → (d1, m1) ≡ masked_sub_bytes Encrypt s n (d, m) → d2 ≡ on_state shift_rows d1 → m2 ≡ on_state shift_rows m1 → d3 ≡ except_last (eqb (n + 1) nr) (on_state mix_columns) d2
      → m3 ≡ except_last (eqb (n + 1) nr) (on_state mix_columns) m2 → d4 ≡ keyed d3 w (n + 1) → (d4, m3) ≡ round_worked w s nr n (d, m)
  unfolding round_worked masked_add_round_key
  round_done m3 d4 e1 e2 e3 e4 e5 e6 = rw (← e1, ← add-one, ← e2, ← e3, ← e4, ← e5, e6) refl

  pub inv_round_done : (d1, m1) ≡ masked_sub_bytes Decrypt s n (d, m) → m2 ≡ except_last (eqb (n + 1) nr) restored m1 → d2 ≡ keyed d1 w (nr - (n + 1)) → d3 ≡ except_last (eqb (n + 1) nr) restored d2
      → (d3, m2) ≡ inv_round_worked w s nr n (d, m)
  unfolding inv_round_worked masked_add_round_key
  inv_round_done e1 e2 e3 e4 = rw (← e1, ← add-one, ← e2, ← e3, e4) refl

-- what the loop over the rounds keeps, `after` being the parts after so many rounds
pub record Past (after : ℕ → Parts → Parts) (nr : ℕ) (d m D M : List ℕ) (n : ℕ) : Type 0 where
  pub bound : n ≤ nr
  pub long_d : length D ≡ length d
  pub long_m : length M ≡ length m
  pub is : (D, M) ≡ after n (d, m)

-- ---- the rounds, one more at a time
module _ (w s : List ℕ) (nr : ℕ) (d m : List ℕ) where
  pub worked_none : (d, m) ≡ worked w s nr 0 (d, m)
  unfolding worked
  worked_none = refl

  pub inv_worked_none : (d, m) ≡ inv_worked w s nr 0 (d, m)
  unfolding inv_worked
  inv_worked_none = refl

  module _ (n : ℕ) (D M D' M' : List ℕ) where
    pub worked_more : (D, M) ≡ worked w s nr n (d, m) → (D', M') ≡ round_worked w s nr n (D, M) → (D', M') ≡ worked w s nr (n + 1) (d, m)
    unfolding worked
    worked_more e f = rw (add-one, ← e) f

    pub inv_worked_more : (D, M) ≡ inv_worked w s nr n (d, m) → (D', M') ≡ inv_round_worked w s nr n (D, M) → (D', M') ≡ inv_worked w s nr (n + 1) (d, m)
    unfolding inv_worked
    inv_worked_more e f = rw (add-one, ← e) f

-- all rounds, from the parts to which the first round key is added; decrypting, their rows back as well
module _ (w s : List ℕ) (nr n : ℕ) (d m D M d0 : List ℕ) (e : n ≡ nr) where
  pub rounds_done : (D, M) ≡ worked w s nr n (d0, m) → d0 ≡ keyed d w 0 → (D, M) ≡ masked_cipher w s nr (d, m)
  unfolding masked_cipher masked_add_round_key
  rounds_done p f = rw (← f) (p ∙ ap (λ (j : ℕ). worked w s nr j (d0, m)) e)

  pub inv_rounds_done : (d1 m0 : List ℕ) → (D, M) ≡ inv_worked w s nr n (d1, m0) → m0 ≡ on_state inv_shift_rows m → d0 ≡ keyed d w nr → d1 ≡ on_state inv_shift_rows d0 → (D, M) ≡ masked_inv_cipher w s nr (d, m)
  unfolding masked_inv_cipher masked_add_round_key
  inv_rounds_done d1 m0 p f g h = rw (← f, ← g, ← h) (p ∙ ap (λ (j : ℕ). inv_worked w s nr j (d1, m0)) e)
