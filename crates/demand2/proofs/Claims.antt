-- Every claim of specs/Claims.antt, proved: from the promises, the length of the words, and that InvCipher undoes Cipher. Assumes nothing.
use mathlib.Core.Path.{◌≡◌, refl, sym, ap, ◌∙◌}
use mathlib.Core.List.{List, [], ◌∷◌}
use mathlib.Core.Bool.{false}
use Prim.Native.Nat.{ℕ, ◌+◌, ◌-◌, ◌*◌, ◌/◌, ◌<◌}
use native.Mathlib.Omega.{arith}
use lib.ListN.{length}
use Rattle.fips197.specs.Cipher.{◌⊞◌, state, shift_rows, round_key, add_round_key, cipher, inv_sub_bytes, inv_cipher, key_expansion}
use Rattle.fips197.proofs.State.{plus_off, length_plus, length_state}
use Rattle.fips197.proofs.Undo.{bytes_plus, key_short}
use Rattle.fips197.proofs.Words.{expanded_length, expansion_bytes}
use Rattle.fips197.proofs.Claims.{undone}
use Rattle.std.specs.Prelude.{Ok, Err}
use Rattle.refusal.specs.Answer.{Answer, first, none_of}
use Rattle.refusal.proofs.First.{found, all_passed}
use Rattle.strip.specs.Strip.{form_of, wiped}
use Rattle.sbox.specs.declared.Direction.{Direction}
use Rattle.sbox.specs.declared.Direction.TheVariants.{Encrypt, Decrypt}
use Rattle.expansion.specs.Expansion.{key_words, key_rounds, wrong_key, wrong_buffer, expansion_of}
use Rattle.block_checks.specs.Checks.{rounds_in, key_size_in, checks}
use Rattle.masked_rounds.specs.Outgoing.{new_masks, outgoing}
use Rattle.cipher.specs.Block.{bare_block, block_of}
use Rattle.demand2.specs.Claims as claims

abbrev words : List ℕ → List ℕ
words key = key_expansion (key_words key) (key_rounds key) key

-- the words of a key are as many as they are to be, and tell its size and its rounds
record Sized (key : List ℕ) : Type 0 where
  rounds : rounds_in (length (words key)) ≡ key_rounds key
  size : key_size_in (length (words key)) ≡ length key
  known : none_of (176 ∷ 208 ∷ 240 ∷ []) (length (words key)) ≡ false

words_length : (key : List ℕ) (nk : ℕ) → 0 < nk → length key ≡ 4 * nk → length (key_expansion nk (nk + 6) key) ≡ 16 * (nk + 7)
unfolding key_expansion
words_length key nk p h = expanded_length nk (4 * (nk + 6 + 1) - nk) key p h ∙ omega arith

of_size : (key : List ℕ) (nk : ℕ) → 0 < nk → length key ≡ 4 * nk → none_of (176 ∷ 208 ∷ 240 ∷ []) (16 * (nk + 7)) ≡ false → Sized key
of_size key nk p h e =
    let k : length key / 4 ≡ nk = omega arith in
    let l : length (words key) ≡ 16 * (nk + 7) = rw k (words_length key nk p h) in
    record { rounds = rw (l, k) (omega arith); size = rw l (omega arith); known = rw l e }

sized : (key : List ℕ) → wrong_key key ≡ false → Sized key
sized key e =
    found 16 24 32 (length key) e
    (λ h. of_size key 4 (omega arith) h refl)
    (λ h. of_size key 6 (omega arith) h refl)
    (λ h. of_size key 8 (omega arith) h refl)

-- the expansion leaves the words
expands : (key buffer : List ℕ) → wrong_key key ≡ false → wrong_buffer key buffer ≡ false → (expansion_of key buffer).1 ≡ words key
unfolding first
expands key buffer e f = rw (e, f) refl

-- every check of a block call passes, and it leaves AES under the outgoing mask
module _ (dir : Direction) (key d m s : List ℕ) (e : wrong_key key ≡ false) (hd : length d ≡ 16) (hm : length m ≡ 16) (hs : form_of s (length key) ≡ Ok tt) where
  passes : ◌≡◌ {A = Answer (Unit {0})} (Ok tt) (first (checks (length d) (length m) (length (words key)) s) Err (Ok tt))
  unfolding first
  passes = rw (hd, hm, (sized key e).known, (sized key e).size) (sym hs)

  abbrev out : List ℕ
  out = outgoing dir s (key_rounds key)

  leaves : block_of dir d m (words key) s ≡ (Ok tt, (bare_block dir (words key) (d ⊞ m) ⊞ out, (out, wiped s)))
  unfolding block_of
  leaves =
      sym (all_passed (λ r. (Err r, (d, (m, s)))) _ tt (checks (length d) (length m) (length (words key)) s) (Ok tt) tt passes refl).0
      ∙ rw (sized key e).rounds refl

bare_is : (dir : Direction) (key b : List ℕ) → wrong_key key ≡ false → bare_block dir (words key) b ≡ claims.aes dir key b
unfolding bare_block
bare_is Encrypt key b e = rw (sized key e).rounds refl
bare_is Decrypt key b e = rw (sized key e).rounds refl

-- ---- the lengths, so that the mask can be taken off

keyed_long : (f : ℕ → ℕ → ℕ) (w : List ℕ) (i : ℕ) → length (add_round_key (state f) w i) ≡ 16
unfolding add_round_key
keyed_long f w i = length_plus (state f) (round_key w i) (omega (arith, key_short w i, length_state f)) ∙ length_state f

bare_long : (dir : Direction) (w b : List ℕ) → length (bare_block dir w b) ≡ 16
unfolding bare_block cipher inv_cipher shift_rows inv_sub_bytes
bare_long Encrypt w b = keyed_long _ w _
bare_long Decrypt w b = keyed_long _ w 0

out_long : (dir : Direction) (s : List ℕ) (nr : ℕ) → length (outgoing dir s nr) ≡ 16
unfolding outgoing new_masks shift_rows
out_long Encrypt s nr = length_state _
out_long Decrypt s nr = length_state _

-- ---- the claims

pub served : claims.Served
served dir key buffer d m s good =
    let e = good.right_key in
    let w_is = expands key buffer e good.right_buffer in
    let l = leaves dir key d m s e good.sixteen.0 good.sixteen.1 good.good_strip in
    let out : List ℕ = outgoing dir s (key_rounds key) in
    let X : List ℕ = bare_block dir (words key) (d ⊞ m) in
    rw (w_is, l) (refl, plus_off X out (omega (arith, bare_long dir (words key) (d ⊞ m), out_long dir s (key_rounds key))) ∙ bare_is dir key (d ⊞ m) e)

pub given_back : claims.GivenBack
given_back key buffer d m s t good ht hk hd hm =
    let e = good.right_key in
    let nr : ℕ = key_rounds key in
    let out : List ℕ = outgoing Encrypt s nr in
    let X : List ℕ = bare_block Encrypt (words key) (d ⊞ m) in
    let back : List ℕ = outgoing Decrypt t nr in
    let lx : length X ≡ 16 = bare_long Encrypt (words key) (d ⊞ m) in
    let lo : length out ≡ 16 = out_long Encrypt s nr in
    let lxo : length (X ⊞ out) ≡ 16 = length_plus X out (omega arith) ∙ lx in
    let l = leaves Encrypt key d m s e good.sixteen.0 good.sixteen.1 good.good_strip in
    let l2 = leaves Decrypt key (X ⊞ out) out t e lxo lo ht in
    let long : length (d ⊞ m) ≡ 16 = length_plus d m (omega (arith, good.sixteen.0, good.sixteen.1)) ∙ good.sixteen.0 in
    rw (expands key buffer e good.right_buffer, l, l2) (plus_off (bare_block Decrypt (words key) (X ⊞ out ⊞ out)) back (omega (arith, bare_long Decrypt (words key) (X ⊞ out ⊞ out), out_long Decrypt t nr))
    ∙ bare_is Decrypt key (X ⊞ out ⊞ out) e
    ∙ ap (claims.aes Decrypt key) (plus_off X out (omega arith) ∙ bare_is Encrypt key (d ⊞ m) e)
    ∙ undone nr (words key) (d ⊞ m) (omega arith) long (bytes_plus d m hd hm) (expansion_bytes (key_words key) nr key hk))
