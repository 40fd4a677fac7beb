-- The next word of key expansion, for private contracts. No promise rests on this.
use Rattle.std.specs.Prelude.{ℕ, ◌-◌, List}
use Rattle.fips197.specs.Cipher.{◌⊞◌, word, temp}

-- word i from the words before it
unfoldable pub next_word : ℕ → ℕ → List ℕ → List ℕ
next_word nk i w = word w (i - nk) ⊞ temp nk i (word w (i - 1))
