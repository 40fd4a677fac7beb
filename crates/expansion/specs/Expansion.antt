-- Key expansion as the call promises it: FIPS 197, 5.2, for a key of 16, 24 or 32 bytes, or a refusal.
use Rattle.std.specs.Prelude.{ℕ, ◌+◌, ◌*◌, ◌/◌, List, [], ◌∷◌, Bool, length, Ok, Err}
use Rattle.fips197.specs.Cipher.{rounds_for, key_expansion}
use Rattle.refusal.specs.Answer.{Answer, first, is_not, none_of}

-- the words of a key, of four bytes each, and the rounds for it
abbrev pub key_words : List ℕ → ℕ
key_words key = length key / 4

abbrev pub key_rounds : List ℕ → ℕ
key_rounds key = rounds_for (key_words key)

-- 4: a key of another length than 16, 24 or 32
abbrev pub wrong_key : List ℕ → Bool
wrong_key key = none_of (16 ∷ 24 ∷ 32 ∷ []) (length key)

-- 5: a buffer of another length than the key asks for: sixteen bytes for each round, and sixteen before them
abbrev pub wrong_buffer : List ℕ → List ℕ → Bool
wrong_buffer key w = is_not (16 * (key_rounds key + 1)) (length w)

-- what the call answers, with the buffer it leaves: the round keys, or after a refusal what was in it
abbrev pub expansion_of : List ℕ → List ℕ → Answer (Unit {0}) × List ℕ
expansion_of key w =
    first ((4, wrong_key key) ∷ (5, wrong_buffer key w) ∷ []) (λ r. (Err r, w))
    (Ok tt, key_expansion (key_words key) (key_rounds key) key)
