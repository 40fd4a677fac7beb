-- The words that the code makes, byte by byte, against those of the standard. Assumes nothing.
use Prim.Native.Nat.{ℕ, ◌+◌, ◌≤◌}
use mathlib.Core.Path.{◌≡◌, refl, ap, ◌∙◌}
use mathlib.Core.List.{List, [], ◌∷◌}
use native.Mathlib.Numerals.{add-one}
use native.Mathlib.Omega.{arith}
use lib.ListN.{length, get_or}
use lib.Bits.{bit_xor}
use Rattle.fips197.specs.Field.{◌⊕◌, xtime}
use Rattle.fips197.specs.Cipher.{◌⊞◌, sub_word, sbox, power}
use Rattle.fips197.proofs.Lists.{eta}

-- x multiplied by itself, one turn more each time
pub power_none : 1 ≡ power 0
unfolding power
power_none = refl

pub power_more : (j b r : ℕ) → b ≡ power j → r ≡ xtime b → r ≡ power (j + 1)
unfolding power
power_more j b r e h = rw (add-one j) (h ∙ ap xtime e)

pub power_all : (i j b : ℕ) → b ≡ power i → i ≤ j → j ≤ i → b ≡ power j
power_all i j b e h g = let q : i ≡ j = omega arith in e ∙ ap power q

-- words of four bytes, byte by byte
pub sum_made : (a b : List ℕ) → length a ≡ 4 → length b ≡ 4
    → ◌≡◌ {A = List ℕ} (bit_xor (get_or a 0 0) (get_or b 0 0) ∷ bit_xor (get_or a 1 0) (get_or b 1 0) ∷ bit_xor (get_or a 2 0) (get_or b 2 0) ∷ bit_xor (get_or a 3 0) (get_or b 3 0) ∷ []) (a ⊞ b)
unfolding ◌⊞◌ ◌⊕◌
sum_made a b h g = rw (eta 4 a h, eta 4 b g) refl

pub sub_made : (l : List ℕ) (a b c d : ℕ) → a ≡ sbox (get_or l 0 0) → b ≡ sbox (get_or l 1 0) → c ≡ sbox (get_or l 2 0) → d ≡ sbox (get_or l 3 0)
    → ◌≡◌ {A = List ℕ} (a ∷ b ∷ c ∷ d ∷ []) (sub_word l)
unfolding sub_word
sub_made l a b c d p q r s = rw (p, q, r, s) refl
