-- InvCipher undoes Cipher under the same round keys: each step undoes its own, and the rounds by induction. Assumes nothing.
use mathlib.Core.Path.{◌≡◌, refl, sym, ap, ap₂, ◌∙◌, subst}
use mathlib.Core.List.{List, [], ◌∷◌}
use Prim.Native.Nat.{ℕ, zero, suc, ◌+◌, ◌-◌, ◌*◌, ◌%◌, ◌^◌, ◌<◌, ◌≤◌}
use native.Mathlib.Nat.{not-suc-le-zero}
use native.Mathlib.Omega.{arith}
use lib.Dec.{T, eqb, lit<}
use lib.ListN.{length, get_or, take, drop, length-take}
use Rattle.fips197.specs.Field.{field, ◌⊕◌, ◌•◌, inverse}
use Rattle.fips197.specs.Cipher.{◌⊞◌, cell, state, sbox, sub_bytes, shift_rows, columns_by, mix_columns, round_key, add_round_key, rounds, cipher, inv_shift_rows, inv_sbox, inv_sub_bytes, inv_mix_columns, inv_rounds, inv_cipher}
use Rattle.fips197.specs.Claims.{Bytes, CipherUndone}
use Rattle.fips197.proofs.Below.{allb}
use Rattle.fips197.proofs.Lists.{eta}
use Rattle.fips197.proofs.Xor.{lt, sums, self, zero_r}
use Rattle.fips197.proofs.Additive.{Additive, agree_on_bytes}
use Rattle.fips197.proofs.Field.{product_lt, product_right}
use Rattle.fips197.proofs.Inverse.{inverse_lt}
use Rattle.fips197.proofs.Affine.{sbox_permutes, affine_lt}
use Rattle.fips197.proofs.State.{plus_off, length_plus, length_state}

-- ---- lists of bytes

pub byte_at : (l : List ℕ) → Bytes l → (i : ℕ) → get_or l i 0 < 256
byte_at [] h i = lit< tt
byte_at (x ∷ l) h zero = h.0
byte_at (x ∷ l) h (suc i) = byte_at l h.1 i

pub bytes_plus : (a b : List ℕ) → Bytes a → Bytes b → Bytes (a ⊞ b)
unfolding ◌⊞◌
bytes_plus [] b ha hb = hb
bytes_plus (x ∷ a) [] ha hb = ha
bytes_plus (x ∷ a) (y ∷ b) ha hb = (lt 8 x y ha.0 hb.0, bytes_plus a b ha.1 hb.1)

pub bytes_take : (n : ℕ) (l : List ℕ) → Bytes l → Bytes (take n l)
bytes_take zero l h = tt
bytes_take (suc n) [] h = tt
bytes_take (suc n) (x ∷ l) h = (h.0, bytes_take n l h.1)

pub bytes_drop : (n : ℕ) (l : List ℕ) → Bytes l → Bytes (drop n l)
bytes_drop zero l h = h
bytes_drop (suc n) [] h = tt
bytes_drop (suc n) (x ∷ l) h = bytes_drop n l h.1

bytes_state : (f : ℕ → ℕ → ℕ) → ((r c : ℕ) → f r c < 256) → Bytes (state f)
unfolding state
bytes_state f h = (h 0 0, (h 1 0, (h 2 0, (h 3 0, (h 0 1, (h 1 1, (h 2 1, (h 3 1, (h 0 2, (h 1 2, (h 2 2, (h 3 2, (h 0 3, (h 1 3, (h 2 3, (h 3 3, tt))))))))))))))))

-- a state: sixteen bytes
record State (s : List ℕ) : Type 0 where
  long : length s ≡ 16
  bytes : Bytes s

state_of : (f : ℕ → ℕ → ℕ) → ((r c : ℕ) → f r c < 256) → State (state f)
state_of f h = record { long = length_state f; bytes = bytes_state f h }

-- ---- each step undone

-- a state is the state of its own cells
own : (s : List ℕ) → length s ≡ 16 → state (cell s) ≡ s
unfolding state cell
own s h = subst (λ (t : List ℕ). state (cell t) ≡ t) (sym (eta 16 s h)) refl

shift_undone : (s : List ℕ) → length s ≡ 16 → inv_shift_rows (shift_rows s) ≡ s
unfolding state cell shift_rows inv_shift_rows
shift_undone s h = subst (λ (t : List ℕ). inv_shift_rows (shift_rows t) ≡ t) (sym (eta 16 s h)) refl

cons : {x y : ℕ} {l m : List ℕ} → x ≡ y → l ≡ m → ◌≡◌ {A = List ℕ} (x ∷ l) (y ∷ m)
cons e f = ap₂ {C = List ℕ} (λ (x : ℕ) (l : List ℕ). x ∷ l) e f

-- two states whose cells agree
same : (f g : ℕ → ℕ → ℕ) → ((r c : ℕ) → r < 4 → c < 4 → f r c ≡ g r c) → state f ≡ state g
unfolding state
same f g h = cons (h 0 0 (lit< tt) (lit< tt)) (cons (h 1 0 (lit< tt) (lit< tt)) (cons (h 2 0 (lit< tt) (lit< tt)) (cons (h 3 0 (lit< tt) (lit< tt)) (cons (h 0 1 (lit< tt) (lit< tt)) (cons (h 1 1 (lit< tt) (lit< tt)) (cons (h 2 1 (lit< tt) (lit< tt)) (cons (h 3 1 (lit< tt) (lit< tt)) (cons (h 0 2 (lit< tt) (lit< tt)) (cons (h 1 2 (lit< tt) (lit< tt)) (cons (h 2 2 (lit< tt) (lit< tt)) (cons (h 3 2 (lit< tt) (lit< tt)) (cons (h 0 3 (lit< tt) (lit< tt)) (cons (h 1 3 (lit< tt) (lit< tt)) (cons (h 2 3 (lit< tt) (lit< tt)) (cons (h 3 3 (lit< tt) (lit< tt)) refl)))))))))))))))

-- a statement of each number below four
four : (P : ℕ → Type 0) → P 0 → P 1 → P 2 → P 3 → (r : ℕ) → r < 4 → P r
four P a b c d zero h = a
four P a b c d (suc zero) h = b
four P a b c d (suc (suc zero)) h = c
four P a b c d (suc (suc (suc zero))) h = d
four P a b c d (suc (suc (suc (suc r)))) h = absurd (omega arith)

pub cell_of : (f : ℕ → ℕ → ℕ) (r c : ℕ) → r < 4 → c < 4 → cell (state f) r c ≡ f r c
unfolding cell state
cell_of f r c h g =
    four (λ r. cell (state f) r c ≡ f r c) (row 0 refl refl refl refl) (row 1 refl refl refl refl) (row 2 refl refl refl refl) (row 3 refl refl refl refl) r h
  where
    row : (r : ℕ) → cell (state f) r 0 ≡ f r 0 → cell (state f) r 1 ≡ f r 1 → cell (state f) r 2 ≡ f r 2 → cell (state f) r 3 ≡ f r 3 → cell (state f) r c ≡ f r c
    row r e0 e1 e2 e3 = four (λ c. cell (state f) r c ≡ f r c) e0 e1 e2 e3 c g

cell_lt : (s : List ℕ) → Bytes s → (r c : ℕ) → cell s r c < 256
unfolding cell
cell_lt s h r c = byte_at s h (r + 4 * c)

sub_undone : (s : List ℕ) → State s → inv_sub_bytes (sub_bytes s) ≡ s
unfolding inv_sub_bytes sub_bytes
sub_undone s h =
    same _ (cell s) (λ r c hr hc. ap inv_sbox (cell_of (λ r c. sbox (cell s r c)) r c hr hc) ∙ (sbox_permutes (cell s r c) (cell_lt s h.bytes r c)).0)
    ∙ own s h.long

-- what the two matrices make of one byte of a column, times p, q, r, s of a row: the byte itself, or nothing
back : ℕ → ℕ → ℕ → ℕ → ℕ → ℕ
back p q r s x = 0x0e • (p • x) ⊕ 0x0b • (q • x) ⊕ 0x0d • (r • x) ⊕ 0x09 • (s • x)

back_additive : (p q r s : ℕ) → Additive (back p q r s)
unfolding back
back_additive p q r s x y = simp (product_right, sums)

back_own : (x : ℕ) → x < 256 → back 2 1 1 3 x ≡ x
unfolding back field
back_own = agree_on_bytes (back 2 1 1 3) (λ x. x) (back_additive 2 1 1 3) (λ x y. refl) tt

back_none : (p q r s : ℕ) → T (allb 8 (λ i. eqb (back p q r s (2 ^ i)) 0)) → (x : ℕ) → x < 256 → back p q r s x ≡ 0
back_none p q r s = agree_on_bytes (back p q r s) (λ x. 0) (back_additive p q r s) (λ x y. sym (self 0))

column_parts : (a b c d : ℕ)
    → 0x0e • (2 • a ⊕ 3 • b ⊕ 1 • c ⊕ 1 • d) ⊕ 0x0b • (2 • b ⊕ 3 • c ⊕ 1 • d ⊕ 1 • a) ⊕ 0x0d • (2 • c ⊕ 3 • d ⊕ 1 • a ⊕ 1 • b) ⊕ 0x09 • (2 • d ⊕ 3 • a ⊕ 1 • b ⊕ 1 • c)
    ≡ back 2 1 1 3 a ⊕ back 3 2 1 1 b ⊕ back 1 3 2 1 c ⊕ back 1 1 3 2 d
unfolding back
column_parts a b c d = simp (product_right, sums)

none_b : (x : ℕ) → x < 256 → back 3 2 1 1 x ≡ 0
unfolding back field
none_b = back_none 3 2 1 1 tt

none_c : (x : ℕ) → x < 256 → back 1 3 2 1 x ≡ 0
unfolding back field
none_c = back_none 1 3 2 1 tt

none_d : (x : ℕ) → x < 256 → back 1 1 3 2 x ≡ 0
unfolding back field
none_d = back_none 1 1 3 2 tt

column_undone : (a b c d : ℕ) → a < 256 → b < 256 → c < 256 → d < 256
    → 0x0e • (2 • a ⊕ 3 • b ⊕ 1 • c ⊕ 1 • d) ⊕ 0x0b • (2 • b ⊕ 3 • c ⊕ 1 • d ⊕ 1 • a) ⊕ 0x0d • (2 • c ⊕ 3 • d ⊕ 1 • a ⊕ 1 • b) ⊕ 0x09 • (2 • d ⊕ 3 • a ⊕ 1 • b ⊕ 1 • c) ≡ a
column_undone a b c d ha hb hc hd =
    column_parts a b c d ∙ simp (back_own a ha, none_b b hb, none_c c hc, none_d d hd, zero_r)

mixed : (s : List ℕ) (r c : ℕ) → r < 4 → c < 4
    → cell (mix_columns s) r c ≡ 2 • cell s r c ⊕ 3 • cell s ((r + 1) % 4) c ⊕ 1 • cell s ((r + 2) % 4) c ⊕ 1 • cell s ((r + 3) % 4) c
unfolding mix_columns columns_by
mixed s r c hr hc = cell_of _ r c hr hc

mix_undone : (s : List ℕ) → State s → inv_mix_columns (mix_columns s) ≡ s
unfolding inv_mix_columns columns_by
mix_undone s h = same _ (cell s) (λ r c hr hc. four (λ r. at r c ≡ cell s r c) (turn0 c hc) (turn1 c hc) (turn2 c hc) (turn3 c hc) r hr) ∙ own s h.long
  where
    m : List ℕ
    m = mix_columns s

    at : ℕ → ℕ → ℕ
    at r c = 0x0e • cell m r c ⊕ 0x0b • cell m ((r + 1) % 4) c ⊕ 0x0d • cell m ((r + 2) % 4) c ⊕ 0x09 • cell m ((r + 3) % 4) c

    x : (r c : ℕ) → cell s r c < 256
    x r c = cell_lt s h.bytes r c

    turn0 : (c : ℕ) → c < 4 → at 0 c ≡ cell s 0 c
    turn0 c g = cc (mixed s 0 c (lit< tt) g, mixed s 1 c (lit< tt) g, mixed s 2 c (lit< tt) g, mixed s 3 c (lit< tt) g, column_undone (cell s 0 c) (cell s 1 c) (cell s 2 c) (cell s 3 c) (x 0 c) (x 1 c) (x 2 c) (x 3 c))

    turn1 : (c : ℕ) → c < 4 → at 1 c ≡ cell s 1 c
    turn1 c g = cc (mixed s 0 c (lit< tt) g, mixed s 1 c (lit< tt) g, mixed s 2 c (lit< tt) g, mixed s 3 c (lit< tt) g, column_undone (cell s 1 c) (cell s 2 c) (cell s 3 c) (cell s 0 c) (x 1 c) (x 2 c) (x 3 c) (x 0 c))

    turn2 : (c : ℕ) → c < 4 → at 2 c ≡ cell s 2 c
    turn2 c g = cc (mixed s 0 c (lit< tt) g, mixed s 1 c (lit< tt) g, mixed s 2 c (lit< tt) g, mixed s 3 c (lit< tt) g, column_undone (cell s 2 c) (cell s 3 c) (cell s 0 c) (cell s 1 c) (x 2 c) (x 3 c) (x 0 c) (x 1 c))

    turn3 : (c : ℕ) → c < 4 → at 3 c ≡ cell s 3 c
    turn3 c g = cc (mixed s 0 c (lit< tt) g, mixed s 1 c (lit< tt) g, mixed s 2 c (lit< tt) g, mixed s 3 c (lit< tt) g, column_undone (cell s 3 c) (cell s 0 c) (cell s 1 c) (cell s 2 c) (x 3 c) (x 0 c) (x 1 c) (x 2 c))

pub key_short : (w : List ℕ) (i : ℕ) → length (round_key w i) ≤ 16
unfolding round_key
key_short w i = omega (arith, length-take 16 (drop (16 * i) w))

key_bytes : (w : List ℕ) (i : ℕ) → Bytes w → Bytes (round_key w i)
unfolding round_key
key_bytes w i h = bytes_take 16 (drop (16 * i) w) (bytes_drop (16 * i) w h)

key_undone : (s w : List ℕ) (i : ℕ) → length s ≡ 16 → add_round_key (add_round_key s w i) w i ≡ s
unfolding add_round_key
key_undone s w i h = plus_off s (round_key w i) (omega (arith, key_short w i))

-- ---- the steps keep states

pub sbox_lt : (b : ℕ) → sbox b < 256
unfolding sbox
sbox_lt b = affine_lt (inverse b) (inverse_lt b)

sub_state : (s : List ℕ) → State (sub_bytes s)
unfolding sub_bytes
sub_state s = state_of _ (λ r c. sbox_lt (cell s r c))

shift_state : (s : List ℕ) → Bytes s → State (shift_rows s)
unfolding shift_rows
shift_state s h = state_of _ (λ r c. cell_lt s h r _)

mix_state : (s : List ℕ) → State (mix_columns s)
unfolding mix_columns columns_by
mix_state s = state_of _ (λ r c. lt 8 _ _ (lt 8 _ _ (lt 8 _ _ (product_lt _ _) (product_lt _ _)) (product_lt _ _)) (product_lt _ _))

key_state : (s w : List ℕ) (i : ℕ) → State s → Bytes w → State (add_round_key s w i)
unfolding add_round_key
key_state s w i h g = record {
  long = length_plus s (round_key w i) (let k = key_short w i in let l = h.long in omega arith) ∙ h.long;
  bytes = bytes_plus s (round_key w i) h.bytes (key_bytes w i g);
}

-- ---- the rounds

module _ (w s : List ℕ) (hs : State s) (hw : Bytes w) where
  rounds_state : (n : ℕ) → State (rounds w n s)
  unfolding rounds
  rounds_state zero = key_state s w 0 hs hw
  rounds_state (suc n) = key_state _ w (suc n) (mix_state _) hw

  first_undone : add_round_key (rounds w 0 s) w 0 ≡ s
  unfolding rounds
  first_undone = key_undone s w 0 hs.long

  round_undone : (k : ℕ) → add_round_key (rounds w (suc k) s) w (suc k) ≡ mix_columns (shift_rows (sub_bytes (rounds w k s)))
  unfolding rounds
  round_undone k = key_undone _ w (suc k) (mix_state _).long

  -- after n inverse rounds the state is the one before the last row shift of the rounds that are left
  left : (m n k : ℕ) → n + k ≡ m → inv_rounds (suc m) w n (cipher (suc m) w s) ≡ shift_rows (sub_bytes (rounds w k s))
  unfolding inv_rounds cipher
  left m zero k e =
      let f : suc m - 1 ≡ k = omega arith in
      key_undone (shift_rows (sub_bytes (rounds w (suc m - 1) s))) w (suc m) (shift_state _ (sub_state _).bytes).long ∙ ap (λ (i : ℕ). shift_rows (sub_bytes (rounds w i s))) f
  left m (suc n) k e =
      let f : n + suc k ≡ m = omega arith in
      let g : suc m - suc n ≡ suc k = omega arith in
      ap₂ (λ (t : List ℕ) (i : ℕ). inv_mix_columns (add_round_key (inv_sub_bytes (inv_shift_rows t)) w i)) (left m n (suc k) f) g
      ∙ ap (λ (t : List ℕ). inv_mix_columns (add_round_key (inv_sub_bytes t) w (suc k))) (shift_undone (sub_bytes (rounds w (suc k) s)) (sub_state _).long)
      ∙ ap (λ (t : List ℕ). inv_mix_columns (add_round_key t w (suc k))) (sub_undone (rounds w (suc k) s) (rounds_state (suc k)))
      ∙ ap inv_mix_columns (round_undone k)
      ∙ mix_undone (shift_rows (sub_bytes (rounds w k s))) (shift_state _ (sub_state _).bytes)

  undone : (m : ℕ) → inv_cipher (suc m) w (cipher (suc m) w s) ≡ s
  unfolding inv_cipher
  undone m =
      let f : suc m - 1 ≡ m = omega arith in
      let g : m + 0 ≡ m = omega arith in
      ap (λ (i : ℕ). add_round_key (inv_sub_bytes (inv_shift_rows (inv_rounds (suc m) w i (cipher (suc m) w s)))) w 0) f
      ∙ ap (λ (t : List ℕ). add_round_key (inv_sub_bytes (inv_shift_rows t)) w 0) (left m m 0 g)
      ∙ ap (λ (t : List ℕ). add_round_key (inv_sub_bytes t) w 0) (shift_undone (sub_bytes (rounds w 0 s)) (sub_state _).long)
      ∙ ap (λ (t : List ℕ). add_round_key t w 0) (sub_undone (rounds w 0 s) (rounds_state 0))
      ∙ first_undone

pub cipher_undone : CipherUndone
cipher_undone zero w s p l hs hw = absurd (not-suc-le-zero p)
cipher_undone (suc m) w s p l hs hw = undone w s (record { long = l; bytes = hs }) hw m
