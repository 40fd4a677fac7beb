-- Demand 2: what is claimed of the calls, from their promises alone. Each claim is proved in proofs/Claims.antt.
use Rattle.std.specs.Prelude.{◌≡◌, List, false, ℕ, length, Ok}
use Rattle.fips197.specs.Cipher.{◌⊞◌, cipher, inv_cipher, key_expansion}
use Rattle.fips197.specs.Claims.{Bytes}
use Rattle.refusal.specs.Answer.{Answer}
use Rattle.strip.specs.Strip.{form_of}
use Rattle.sbox.specs.declared.Direction.{Direction}
use Rattle.sbox.specs.declared.Direction.TheVariants.{Encrypt, Decrypt}
use Rattle.expansion.specs.Expansion.{key_words, key_rounds, wrong_key, wrong_buffer, expansion_of}
use Rattle.cipher.specs.Block.{block_of}

-- AES of FIPS 197: the cipher, or its inverse, over the key's own words
abbrev pub aes : Direction → List ℕ → List ℕ → List ℕ
aes Encrypt key b = cipher (key_rounds key) (key_expansion (key_words key) (key_rounds key) key) b
aes Decrypt key b = inv_cipher (key_rounds key) (key_expansion (key_words key) (key_rounds key) key) b

-- what a block call leaves: its answer, and block and mask added
abbrev pub answer : Answer (Unit {0}) × (List ℕ × (List ℕ × List ℕ)) → Answer (Unit {0})
answer (a, (d, (m, s))) = a

abbrev pub unmasked : Answer (Unit {0}) × (List ℕ × (List ℕ × List ℕ)) → List ℕ
unmasked (a, (d, (m, s))) = d ⊞ m

-- a key of 16, 24 or 32 bytes, a buffer for its words, and an unspent strip of good form for that key size
pub record GoodInput (key buffer d m s : List ℕ) : Type 0 where
  pub right_key : wrong_key key ≡ false
  pub right_buffer : wrong_buffer key buffer ≡ false
  pub sixteen : (length d ≡ 16) × (length m ≡ 16)
  pub good_strip : form_of s (length key) ≡ Ok tt

-- for every key, block, mask and good strip: served, and without its mask it is AES
abbrev pub Served : Type 0
Served = (dir : Direction) (key buffer d m s : List ℕ) → GoodInput key buffer d m s
    → let after = block_of dir d m (expansion_of key buffer).1 s in (answer after ≡ Ok tt) × (unmasked after ≡ aes dir key (d ⊞ m))

-- decrypting what was encrypted, with a further strip, gives the block back
abbrev pub GivenBack : Type 0
GivenBack = (key buffer d m s t : List ℕ) → GoodInput key buffer d m s → form_of t (length key) ≡ Ok tt → Bytes key → Bytes d → Bytes m
    → let w = (expansion_of key buffer).1 in let sent = (block_of Encrypt d m w s).1 in unmasked (block_of Decrypt sent.0 sent.1.0 w t) ≡ d ⊞ m
