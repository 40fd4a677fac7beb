-- The words that the code makes, against those of the standard. Assumes nothing.
use Prim.Native.Nat.{ℕ, ◌+◌, ◌-◌, ◌*◌, ◌/◌, ◌%◌, ◌≤◌, ◌<◌}
use mathlib.Core.Path.{◌≡◌, refl, ◌∙◌}
use mathlib.Core.List.{List, [], ◌∷◌}
use mathlib.Core.Bool.{true, false}
use native.Mathlib.Nat.{add-zero, le-div_iff_mul-le}
use native.Mathlib.Omega.{arith}
use lib.ListN.{length, get_or, take, drop, length-drop}
use lib.Seq.{get_or-drop}
use lib.Dec.{eqb}
use borrow.Author.Tests.{eq-eqb, ne_eqb, lt-ltb, le-ltb}
use Rattle.fips197.specs.Cipher.{◌⊞◌, word, rot_word, sub_word, rcon, temp}
use Rattle.expansion.specs.Inner.{next_word}

pub next_made : (nk i : ℕ) (w first last t x : List ℕ) → first ≡ word w (i - nk) → last ≡ word w (i - 1) → t ≡ temp nk i last → x ≡ first ⊞ t → x ≡ next_word nk i w
unfolding next_word
next_made nk i w first last t x p q r e = e ∙ rw (r, q, p) refl

four : (l : List ℕ) → 4 ≤ length l → ◌≡◌ {A = List ℕ} (get_or l 0 0 ∷ get_or l 1 0 ∷ get_or l 2 0 ∷ get_or l 3 0 ∷ []) (take 4 l)
four [] h = absurd (omega arith)
four (a ∷ []) h = absurd (omega arith)
four (a ∷ b ∷ []) h = absurd (omega arith)
four (a ∷ b ∷ c ∷ []) h = absurd (omega arith)
four (a ∷ b ∷ c ∷ d ∷ l) h = refl

pub word_read : (w : List ℕ) (i : ℕ) → 4 * i + 4 ≤ length w
    → ◌≡◌ {A = List ℕ} (get_or w (4 * i) 0 ∷ get_or w (4 * i + 1) 0 ∷ get_or w (4 * i + 2) 0 ∷ get_or w (4 * i + 3) 0 ∷ []) (word w i)
unfolding word
word_read w i h =
    rw (get_or-drop (4 * i) w 0 0, add-zero (4 * i), get_or-drop (4 * i) w 1 0, get_or-drop (4 * i) w 2 0, get_or-drop (4 * i) w 3 0) at
    (four (drop (4 * i) w) (omega (arith, length-drop (4 * i) w)))

-- the number of the round constant is never zero
pub turn_pos : (nk i : ℕ) → 0 < nk → nk ≤ i → 0 < i / nk
turn_pos nk i h g = (le-div_iff_mul-le h).1 (omega arith)

-- which case of `temp` the tests of the code have shown
module _ (nk i : ℕ) (a x : List ℕ) where
  pub temp_turn : (r s k : List ℕ) → i % nk ≡ 0 → r ≡ rot_word a → s ≡ sub_word r → k ≡ rcon (i / nk) → x ≡ s ⊞ k → x ≡ temp nk i a
  unfolding temp
  temp_turn r s k h p q e f = f ∙ rw (eq-eqb (i % nk) 0 h, q, p, e) refl

  pub temp_again : (i % nk ≡ 0 → ⊥) → 6 < nk → eqb (i % nk) 4 ≡ true → x ≡ sub_word a → x ≡ temp nk i a
  unfolding temp
  temp_again n g h e = rw (ne_eqb (i % nk) 0 n, lt-ltb 6 nk g, h) e

  pub temp_long : (i % nk ≡ 0 → ⊥) → 6 < nk → eqb (i % nk) 4 ≡ false → x ≡ a → x ≡ temp nk i a
  unfolding temp
  temp_long n g h e = rw (ne_eqb (i % nk) 0 n, lt-ltb 6 nk g, h) e

  pub temp_short : (i % nk ≡ 0 → ⊥) → nk ≤ 6 → x ≡ a → x ≡ temp nk i a
  unfolding temp
  temp_short n g e = rw (ne_eqb (i % nk) 0 n, le-ltb 6 nk g) e
