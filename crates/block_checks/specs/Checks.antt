-- What a block call refuses, and in which order.
use Rattle.std.specs.Prelude.{ℕ, ◌-◌, ◌*◌, ◌/◌, List, [], ◌∷◌, Bool, ◌||◌}
use Rattle.refusal.specs.Answer.{is_not, none_of}
use Rattle.strip.specs.Strip.{block_checks}

-- what the number of bytes of the round keys tells: 10, 12 or 14 rounds, and a key size of 16, 24 or 32
abbrev pub rounds_in : ℕ → ℕ
rounds_in bytes = bytes / 16 - 1

abbrev pub key_size_in : ℕ → ℕ
key_size_in bytes = 4 * (rounds_in bytes - 6)

-- rule 5.4: block or mask not 16 bytes, round keys of none of the three lengths, then the strip's own
abbrev pub checks : ℕ → ℕ → ℕ → List ℕ → List (ℕ × Bool)
checks d m w s =
    (6, (is_not 16 d || is_not 16 m)) ∷ (5, none_of (176 ∷ 208 ∷ 240 ∷ []) w) ∷ block_checks s (key_size_in w)
