-- The linear steps of FIPS 197 as the calls promise them: of any lengths and any round.
use Rattle.std.specs.Prelude.{ℕ, ◌+◌, ◌*◌, List, cond, leb, length}
use Rattle.fips197.specs.Cipher.{add_round_key}
use Rattle.refusal.specs.Part.{on_length}

-- a state is sixteen bytes; any other part is left as it is
abbrev pub on_state : (List ℕ → List ℕ) → List ℕ → List ℕ
on_state f l = on_length 16 f l

-- AddRoundKey where s is a state and the round's key is all there; else s is left as it is
unfoldable pub keyed : List ℕ → List ℕ → ℕ → List ℕ
keyed s w round = on_state (λ t. cond (leb (16 * round + 16) (length w)) (add_round_key t w round) t) s
