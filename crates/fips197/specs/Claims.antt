-- What is claimed of the definitions of FIPS 197. Each claim is proved in proofs/Claims.antt.
use Rattle.std.specs.Prelude.{◌≡◌, List, [], ◌∷◌, ℕ, ◌<◌, length}
use Rattle.fips197.specs.Field.{◌•◌, inverse}
use Rattle.fips197.specs.Cipher.{sbox, inv_sbox, cipher, inv_cipher}

-- 4.4 b times its inverse is one, for every byte but zero, and zero gives zero
abbrev pub InverseLaw : Type 0
InverseLaw = (b : ℕ) → 0 < b → b < 256 → b • inverse b ≡ 1

abbrev pub InverseOfZero : Type 0
InverseOfZero = inverse 0 ≡ 0

-- 5.1.1, 5.3.2 the S-box permutes the bytes, and the inverse S-box undoes it
abbrev pub SboxPermutes : Type 0
SboxPermutes = (b : ℕ) → b < 256 → (inv_sbox (sbox b) ≡ b) × (sbox (inv_sbox b) ≡ b)

-- every number of a list is a byte
abbrev pub Bytes : List ℕ → Type 0
Bytes [] = Unit {0}
Bytes (x ∷ l) = (x < 256) × Bytes l

-- 5.3 InvCipher undoes Cipher, under the same round keys, for every state and any number of rounds
abbrev pub CipherUndone : Type 0
CipherUndone = (nr : ℕ) (w s : List ℕ) → 0 < nr → length s ≡ 16 → Bytes s → Bytes w → inv_cipher nr w (cipher nr w s) ≡ s
