-- What the entries for a host in C refuse before all else, and in which order.
use Rattle.std.specs.Prelude.{ℕ, zero, suc, List, [], ◌∷◌, Bool, ◌||◌}
use Rattle.refusal.specs.Answer.{is_not, none_of}
use Rattle.sbox.specs.declared.Direction.{Direction}
use Rattle.sbox.specs.declared.Direction.TheVariants.{Encrypt, Decrypt}

-- 13: neither 0, to encrypt, nor 1, to decrypt
abbrev pub no_direction : ℕ → Bool
no_direction n = none_of (0 ∷ 1 ∷ []) n

unfoldable pub way : ℕ → Direction
way zero = Encrypt
way (suc n) = Decrypt

-- 6: data and mask not one byte each, or the record not three
unfoldable pub wrong_sbox_lengths : ℕ → ℕ → ℕ → Bool
wrong_sbox_lengths d m r = is_not 1 d || (is_not 1 m || is_not 3 r)

-- the refusals that both forms of the S-box begin with
unfoldable pub sbox_checks : ℕ → ℕ → ℕ → ℕ → List (ℕ × Bool)
sbox_checks n d m r = (13, no_direction n) ∷ (6, wrong_sbox_lengths d m r) ∷ []
