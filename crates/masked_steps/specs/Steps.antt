-- The steps of a round on data and mask, as the calls promise them: of any lengths, with any strip, in any round.
use Rattle.std.specs.Prelude.{ℕ, ◌+◌, ◌*◌, List, [], ◌∷◌, Bool, cond, ◌&&◌, eqb, length}
use Rattle.fips197.specs.Cipher.{cell, state, inv_shift_rows, inv_mix_columns}
use Rattle.refusal.specs.Answer.{first, above}
use Rattle.tower.specs.declared.Record.{Record}
use Rattle.strip.specs.Strip.{record_part}
use Rattle.aes.specs.Steps.{on_state}
use Rattle.sbox.specs.declared.Direction.{Direction}
use Rattle.sbox.specs.Sbox.{new_byte, new_mask, record_of}

-- a record of a strip, where the reader hands it out
unfoldable pub record_at : List ℕ → ℕ → Record
record_at s index = record_of (record_part s index)

-- data and mask
abbrev pub Parts : Type 0
Parts = List ℕ × List ℕ

-- two states; parts of any other lengths are left as they are
unfoldable pub on_states : (Parts → Parts) → Parts → Parts
on_states f b = cond (eqb (length b.0) 16 && eqb (length b.1) 16) (f b) b

-- a byte and its mask through the S-box; where the record is refused, both stay as they are
unfoldable pub boxed : Direction → ℕ → ℕ → Record → ℕ × ℕ
boxed dir d m ρ = first ((2, above 3 ρ.r) ∷ []) (λ _. (d, m)) (new_byte dir d m ρ, new_mask dir ρ)

-- every byte of the state through its S-box, in round n of the work, from 0: sixteen records a round, by position in the state
unfoldable pub all_boxed : Direction → List ℕ → ℕ → Parts → Parts
all_boxed dir s n b =
    let at : ℕ → ℕ → ℕ × ℕ = λ r c. boxed dir (cell b.0 r c) (cell b.1 r c) (record_at s (16 * n + (r + 4 * c))) in
    (state (λ r c. (at r c).0), state (λ r c. (at r c).1))

unfoldable pub masked_sub_bytes : Direction → List ℕ → ℕ → Parts → Parts
masked_sub_bytes dir s n b = on_states (all_boxed dir s n) b

-- what every round does but the last
unfoldable pub except_last : Bool → (List ℕ → List ℕ) → List ℕ → List ℕ
except_last last f l = cond last l (f l)

-- what follows the round key when decrypting: the columns of this round, and the rows of the next
unfoldable pub restored : List ℕ → List ℕ
restored l = on_state inv_shift_rows (on_state inv_mix_columns l)
