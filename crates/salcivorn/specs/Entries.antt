-- What the entries for a host in C answer: the refusal's number, 0 for done, and every lent part.
use Rattle.std.specs.Prelude.{ℕ, List, [], ◌∷◌, ◌++◌, length, get_or, Ok, Err}
use Rattle.refusal.specs.Answer.{numbered, first, above, is_not}
use Rattle.points.specs.Points.{record_points}
use Rattle.sbox.specs.Sbox.{enter_data, enter_mask, new_byte, new_mask, record_of}
use Rattle.entry_checks.specs.Checks.{no_direction, way, sbox_checks}
use Rattle.expansion.specs.Expansion.{expansion_of}
use Rattle.cipher.specs.Block.{block_of}

-- the S-box: its answers stand in the lent data byte and mask byte
unfoldable pub sbox_of : ℕ → List ℕ → List ℕ → List ℕ → ℕ × (List ℕ × List ℕ)
sbox_of n d m r =
    numbered (first (sbox_checks n (length d) (length m) (length r) ++ ((2, above 3 (record_of r).r) ∷ [])) (λ x. (Err x, (d, m)))
    (Ok tt, (new_byte (way n) (get_or d 0 0) (get_or m 0 0) (record_of r) ∷ [], new_mask (way n) (record_of r) ∷ [])))

-- the same with points
unfoldable pub sbox_points_of : ℕ → List ℕ → List ℕ → List ℕ → List ℕ → ℕ × (List ℕ × (List ℕ × List ℕ))
sbox_points_of n d m r points =
    numbered (first (sbox_checks n (length d) (length m) (length r) ++ ((3, is_not 62 (length points)) ∷ (2, above 3 (record_of r).r) ∷ [])) (λ x. (Err x, (d, (m, points))))
    (Ok tt, (new_byte (way n) (get_or d 0 0) (get_or m 0 0) (record_of r) ∷ [], (new_mask (way n) (record_of r) ∷ [], record_points (enter_data (way n) (get_or d 0 0)) (enter_mask (way n) (get_or m 0 0)) (record_of r)))))

-- expansion, as it is inside the language
unfoldable pub expand_of : List ℕ → List ℕ → ℕ × List ℕ
expand_of key w = numbered (expansion_of key w)

-- a block: 13 first
unfoldable pub directed_block_of : ℕ → List ℕ → List ℕ → List ℕ → List ℕ → ℕ × (List ℕ × (List ℕ × List ℕ))
directed_block_of n d m w s =
    numbered (first ((13, no_direction n) ∷ []) (λ x. (Err x, (d, (m, s)))) (block_of (way n) d m w s))
