-- FIPS 197, section 5: the cipher, the key expansion and the inverse cipher, in the standard's order and under its names.
-- A word is four bytes, a state sixteen, column by column; round keys are the words one after the other, as bytes.
use Rattle.std.specs.Prelude.{ℕ, zero, suc, ◌+◌, ◌-◌, ◌*◌, ◌/◌, ◌%◌, ◌^◌, List, [], ◌∷◌, ◌++◌, cond, get_or, take, drop, eqb, ltb}
use Rattle.fips197.specs.Field.{◌⊕◌, xtime, ◌•◌, inverse}

-- 4.1 the sum of words and of states, byte by byte
infixl 68 ◌⊞◌
unfoldable pub ◌⊞◌ : List ℕ → List ℕ → List ℕ
[] ⊞ ys = ys
(x ∷ xs) ⊞ [] = x ∷ xs
(x ∷ xs) ⊞ (y ∷ ys) = x ⊕ y ∷ xs ⊞ ys

-- 3.4 the byte in row r and column c of a state, and the state of such bytes
unfoldable pub cell : List ℕ → ℕ → ℕ → ℕ
cell s r c = get_or s (r + 4 * c) 0

unfoldable pub state : (ℕ → ℕ → ℕ) → List ℕ
state f =
    f 0 0 ∷ f 1 0 ∷ f 2 0 ∷ f 3 0 ∷ f 0 1 ∷ f 1 1 ∷ f 2 1 ∷ f 3 1 ∷ f 0 2 ∷ f 1 2 ∷ f 2 2 ∷ f 3 2 ∷ f 0 3 ∷ f 1 3 ∷ f 2 3 ∷ f 3 3 ∷ []

-- 5 the number of rounds for a key of nk words: 10, 12 and 14 for 4, 6 and 8
abbrev pub rounds_for : ℕ → ℕ
rounds_for nk = nk + 6

-- 5.1.1 SubBytes: the inverse, then the affine step, whose linear part is written first
unfoldable pub bit : ℕ → ℕ → ℕ
bit b i = b / 2 ^ i % 2

unfoldable pub byte : (ℕ → ℕ) → ℕ
byte f = f 0 ⊕ f 1 * 2 ⊕ f 2 * 4 ⊕ f 3 * 8 ⊕ f 4 * 16 ⊕ f 5 * 32 ⊕ f 6 * 64 ⊕ f 7 * 128

unfoldable pub linear : ℕ → ℕ
linear b = byte (λ i. bit b i ⊕ bit b ((i + 4) % 8) ⊕ bit b ((i + 5) % 8) ⊕ bit b ((i + 6) % 8) ⊕ bit b ((i + 7) % 8))

unfoldable pub affine : ℕ → ℕ
affine b = linear b ⊕ 0x63

unfoldable pub sbox : ℕ → ℕ
sbox b = affine (inverse b)

unfoldable pub sub_bytes : List ℕ → List ℕ
sub_bytes s = state (λ r c. sbox (cell s r c))

-- 5.1.2 ShiftRows
unfoldable pub shift_rows : List ℕ → List ℕ
shift_rows s = state (λ r c. cell s r ((c + r) % 4))

-- 5.1.3 MixColumns: row r of the matrix is a0 a1 a2 a3 turned r places to the right
unfoldable pub columns_by : ℕ → ℕ → ℕ → ℕ → List ℕ → List ℕ
columns_by a0 a1 a2 a3 s =
    state (λ r c. a0 • cell s r c ⊕ a1 • cell s ((r + 1) % 4) c ⊕ a2 • cell s ((r + 2) % 4) c ⊕ a3 • cell s ((r + 3) % 4) c)

unfoldable pub mix_columns : List ℕ → List ℕ
mix_columns = columns_by 0x02 0x03 0x01 0x01

-- 5.1.4 AddRoundKey: words 4 * round to 4 * round + 3 of w
unfoldable pub round_key : List ℕ → ℕ → List ℕ
round_key w round = take 16 (drop (16 * round) w)

unfoldable pub add_round_key : List ℕ → List ℕ → ℕ → List ℕ
add_round_key s w round = s ⊞ round_key w round

-- 5.1 Cipher: its state after n rounds that mix columns, and the whole
unfoldable pub rounds : List ℕ → ℕ → List ℕ → List ℕ
rounds w zero s = add_round_key s w 0
rounds w (suc n) s = add_round_key (mix_columns (shift_rows (sub_bytes (rounds w n s)))) w (suc n)

unfoldable pub cipher : ℕ → List ℕ → List ℕ → List ℕ
cipher nr w s = add_round_key (shift_rows (sub_bytes (rounds w (nr - 1) s))) w nr

-- 5.2 KeyExpansion
unfoldable pub word : List ℕ → ℕ → List ℕ
word w i = take 4 (drop (4 * i) w)

unfoldable pub rot_word : List ℕ → List ℕ
rot_word a = get_or a 1 0 ∷ get_or a 2 0 ∷ get_or a 3 0 ∷ get_or a 0 0 ∷ []

unfoldable pub sub_word : List ℕ → List ℕ
sub_word a = sbox (get_or a 0 0) ∷ sbox (get_or a 1 0) ∷ sbox (get_or a 2 0) ∷ sbox (get_or a 3 0) ∷ []

-- the round constant j, from 1: x to the power j - 1, and three zeros
unfoldable pub power : ℕ → ℕ
power zero = 1
power (suc j) = xtime (power j)

unfoldable pub rcon : ℕ → List ℕ
rcon j = power (j - 1) ∷ 0 ∷ 0 ∷ 0 ∷ []

-- what is added to word i - nk, a being word i - 1
unfoldable pub temp : ℕ → ℕ → List ℕ → List ℕ
temp nk i a =
    cond (eqb (i % nk) 0) (sub_word (rot_word a) ⊞ rcon (i / nk)) (cond (ltb 6 nk) (cond (eqb (i % nk) 4) (sub_word a) a) a)

-- the key with n words more, and the words for nr rounds
unfoldable pub expanded : ℕ → ℕ → List ℕ → List ℕ
expanded nk zero key = key
expanded nk (suc n) key = let w = expanded nk n key in w ++ (word w n ⊞ temp nk (nk + n) (word w (nk + n - 1)))

unfoldable pub key_expansion : ℕ → ℕ → List ℕ → List ℕ
key_expansion nk nr key = expanded nk (4 * (nr + 1) - nk) key

-- 5.3.1 InvShiftRows
unfoldable pub inv_shift_rows : List ℕ → List ℕ
inv_shift_rows s = state (λ r c. cell s r ((c + 4 - r) % 4))

-- 5.3.2 InvSubBytes: the inverse of the affine step, then the inverse
unfoldable pub inv_linear : ℕ → ℕ
inv_linear b = byte (λ i. bit b ((i + 2) % 8) ⊕ bit b ((i + 5) % 8) ⊕ bit b ((i + 7) % 8))

unfoldable pub inv_affine : ℕ → ℕ
inv_affine b = inv_linear b ⊕ 0x05

unfoldable pub inv_sbox : ℕ → ℕ
inv_sbox b = inverse (inv_affine b)

unfoldable pub inv_sub_bytes : List ℕ → List ℕ
inv_sub_bytes s = state (λ r c. inv_sbox (cell s r c))

-- 5.3.3 InvMixColumns
unfoldable pub inv_mix_columns : List ℕ → List ℕ
inv_mix_columns = columns_by 0x0e 0x0b 0x0d 0x09

-- 5.3 InvCipher: its state after n rounds that mix columns, and the whole
unfoldable pub inv_rounds : ℕ → List ℕ → ℕ → List ℕ → List ℕ
inv_rounds nr w zero s = add_round_key s w nr
inv_rounds nr w (suc n) s = inv_mix_columns (add_round_key (inv_sub_bytes (inv_shift_rows (inv_rounds nr w n s))) w (nr - suc n))

unfoldable pub inv_cipher : ℕ → List ℕ → List ℕ → List ℕ
inv_cipher nr w s = add_round_key (inv_sub_bytes (inv_shift_rows (inv_rounds nr w (nr - 1) s))) w 0

-- one name that opens all of the above where a proof computes
unfoldable pub fips : Unit {0}
unfolding ◌⊞◌ cell state bit byte linear affine sbox sub_bytes shift_rows columns_by mix_columns round_key add_round_key rounds cipher word rot_word sub_word power rcon temp expanded key_expansion inv_shift_rows inv_linear inv_affine inv_sbox inv_sub_bytes inv_mix_columns inv_rounds inv_cipher
fips = tt
