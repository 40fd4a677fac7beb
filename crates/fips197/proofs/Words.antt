-- The words of an expansion: bytes where the key is, and as many as there are to be. Assumes nothing.
use mathlib.Core.Path.{◌≡◌, refl, ◌∙◌}
use mathlib.Core.List.{List, [], ◌∷◌, ◌++◌}
use mathlib.Core.Bool.{Bool, true, false, cond}
use Prim.Native.Nat.{ℕ, zero, suc, ◌+◌, ◌-◌, ◌*◌, ◌/◌, ◌%◌, ◌<◌, ◌≤◌}
use native.Mathlib.Omega.{arith}
use lib.Dec.{eqb, ltb, lit<}
use lib.ListN.{length, drop, length-append, length-take, length-drop}
use Rattle.fips197.specs.Cipher.{◌⊞◌, word, rot_word, sub_word, power, rcon, temp, expanded, key_expansion}
use Rattle.fips197.specs.Claims.{Bytes}
use Rattle.fips197.proofs.Field.{xtime_lt}
use Rattle.fips197.proofs.State.{length_plus}
use Rattle.fips197.proofs.Undo.{bytes_plus, bytes_take, bytes_drop, sbox_lt}

bytes_append : (a b : List ℕ) → Bytes a → Bytes b → Bytes (a ++ b)
bytes_append [] b h g = g
bytes_append (x ∷ a) b h g = (h.0, bytes_append a b h.1 g)

power_lt : (j : ℕ) → power j < 256
unfolding power
power_lt zero = lit< tt
power_lt (suc j) = xtime_lt (power j) (power_lt j)

rcon_bytes : (j : ℕ) → Bytes (rcon j)
unfolding rcon
rcon_bytes j = (power_lt (j - 1), (lit< tt, (lit< tt, (lit< tt, tt))))

sub_bytes_law : (a : List ℕ) → Bytes (sub_word a)
unfolding sub_word
sub_bytes_law a = (sbox_lt _, (sbox_lt _, (sbox_lt _, (sbox_lt _, tt))))

-- what holds of each of the three words is so of the one added
chosen : (P : List ℕ → Type 0) (b : Bool) (x y : List ℕ) → P x → P y → P (cond b x y)
chosen P true x y h g = h
chosen P false x y h g = g

temp_is : (P : List ℕ → Type 0) (nk i : ℕ) (a : List ℕ) → P (sub_word (rot_word a) ⊞ rcon (i / nk)) → P (sub_word a) → P a → P (temp nk i a)
unfolding temp
temp_is P nk i a p q h =
    chosen P (eqb (i % nk) 0) (sub_word (rot_word a) ⊞ rcon (i / nk)) (cond (ltb 6 nk) (cond (eqb (i % nk) 4) (sub_word a) a) a) p
    (chosen P (ltb 6 nk) (cond (eqb (i % nk) 4) (sub_word a) a) a (chosen P (eqb (i % nk) 4) (sub_word a) a q h) h)

temp_bytes : (nk i : ℕ) (a : List ℕ) → Bytes a → Bytes (temp nk i a)
temp_bytes nk i a h = temp_is Bytes nk i a (bytes_plus (sub_word (rot_word a)) (rcon (i / nk)) (sub_bytes_law (rot_word a)) (rcon_bytes (i / nk))) (sub_bytes_law a) h

word_bytes : (w : List ℕ) (i : ℕ) → Bytes w → Bytes (word w i)
unfolding word
word_bytes w i h = bytes_take 4 (drop (4 * i) w) (bytes_drop (4 * i) w h)

expanded_bytes : (nk n : ℕ) (key : List ℕ) → Bytes key → Bytes (expanded nk n key)
unfolding expanded
expanded_bytes nk zero key h = h
expanded_bytes nk (suc n) key h =
    let w = expanded nk n key in
    let g = expanded_bytes nk n key h in
    bytes_append w (word w n ⊞ temp nk (nk + n) (word w (nk + n - 1))) g
    (bytes_plus (word w n) (temp nk (nk + n) (word w (nk + n - 1))) (word_bytes w n g) (temp_bytes nk (nk + n) (word w (nk + n - 1)) (word_bytes w (nk + n - 1) g)))

pub expansion_bytes : (nk nr : ℕ) (key : List ℕ) → Bytes key → Bytes (key_expansion nk nr key)
unfolding key_expansion
expansion_bytes nk nr key h = expanded_bytes nk (4 * (nr + 1) - nk) key h

-- ---- the length

sub_length : (a : List ℕ) → length (sub_word a) ≡ 4
unfolding sub_word
sub_length a = refl

rcon_length : (j : ℕ) → length (rcon j) ≡ 4
unfolding rcon
rcon_length j = refl

plus_length : (a b : List ℕ) → length a ≡ 4 → length b ≡ 4 → length (a ⊞ b) ≡ 4
plus_length a b h g = length_plus a b (omega arith) ∙ h

temp_length : (nk i : ℕ) (a : List ℕ) → length a ≡ 4 → length (temp nk i a) ≡ 4
temp_length nk i a h =
    temp_is (λ l. length l ≡ 4) nk i a (plus_length (sub_word (rot_word a)) (rcon (i / nk)) (sub_length (rot_word a)) (rcon_length (i / nk))) (sub_length a) h

word_length : (w : List ℕ) (i : ℕ) → 4 * i + 4 ≤ length w → length (word w i) ≡ 4
unfolding word
word_length w i h = length-take 4 (drop (4 * i) w) ∙ omega (arith, length-drop (4 * i) w)

pub expanded_length : (nk n : ℕ) (key : List ℕ) → 0 < nk → length key ≡ 4 * nk → length (expanded nk n key) ≡ 4 * (nk + n)
unfolding expanded
expanded_length nk zero key p h = omega arith
expanded_length nk (suc n) key p h =
    let w = expanded nk n key in
    let l : length w ≡ 4 * (nk + n) = expanded_length nk n key p h in
    let a : length (word w n) ≡ 4 = word_length w n (omega arith) in
    let b : length (word w (nk + n - 1)) ≡ 4 = word_length w (nk + n - 1) (omega arith) in
    let t : length (word w n ⊞ temp nk (nk + n) (word w (nk + n - 1))) ≡ 4 = plus_length (word w n) (temp nk (nk + n) (word w (nk + n - 1))) a (temp_length nk (nk + n) (word w (nk + n - 1)) b) in
    length-append w (word w n ⊞ temp nk (nk + n) (word w (nk + n - 1))) ∙ omega arith
