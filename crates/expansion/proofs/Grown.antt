-- A buffer that the loop of key expansion fills, word by word, behind the key. Assumes nothing.
use Prim.Native.Nat.{ℕ, suc, ◌+◌, ◌-◌, ◌*◌, ◌≤◌, ◌<◌}
use mathlib.Core.Path.{◌≡◌, refl, ap, ◌∙◌}
use mathlib.Core.List.{List, ◌++◌, append_assoc, append-nil}
use native.Mathlib.Nat.{add-sub_cancel_left}
use native.Mathlib.Omega.{arith}
use lib.ListN.{length, take, drop, length-append, take-append-drop, length-take, length-drop, drop_of_length-le}
use lib.Seq.{take_at, drop_at, drop-drop}
use borrow.Rule.Slice.PartMut.{same_len_mid}
use Rattle.fips197.specs.Cipher.{expanded}
use Rattle.expansion.specs.Inner.{next_word}

-- what the loop keeps: the words up to i stand behind one another, and the rest is as it was
pub record Grew (w₀ : List ℕ) (nk words : ℕ) (w : List ℕ) (i : ℕ) : Type 0 where
  pub least : nk ≤ i
  pub most : i ≤ words
  pub long : length w ≡ 4 * words
  pub front : length (expanded nk (i - nk) (take (4 * nk) w₀)) ≡ 4 * i
  pub is : w ≡ expanded nk (i - nk) (take (4 * nk) w₀) ++ drop (4 * i) w₀

module _ (w₀ : List ℕ) (nk words : ℕ) where
  pub grew_none : nk ≤ words → length w₀ ≡ 4 * words → Grew w₀ nk words w₀ nk
  unfolding expanded
  grew_none h g =
      let e : nk - nk ≡ 0 = omega arith in
      record {
        least = omega arith;
        most = h;
        long = g;
        front = rw (e, length-take) (omega arith);
        is = rw (e, take-append-drop) refl;
      }

  -- the next word a, copied into the four bytes at its place, is all that becomes of them
  pub grew_more : (w a new : List ℕ) (i : ℕ) → Grew w₀ nk words w i → i < words → a ≡ next_word nk i (take (4 * i) w) → length a ≡ 4 → new ≡ a
      → Grew w₀ nk words (take (4 * i) w ++ (new ++ drop (4 * i + 4 - 4 * i) (drop (4 * i) w))) (i + 1)
  unfolding expanded next_word
  grew_more w a new i g h e l new_is =
      let G = expanded nk (i - nk) (take (4 * nk) w₀) in
      let n : i + 1 - nk ≡ suc (i - nk) = omega (arith, g.least) in
      let k : nk + (i - nk) ≡ i = omega (arith, g.least) in
      let m : 4 * (i + 1) ≡ 4 * i + 4 = omega arith in
      let part : length (take (4 * i + 4 - 4 * i) (drop (4 * i) w)) ≡ 4 = rw (length-take, length-drop) (omega (arith, g.long)) in
      let t : take (4 * i) w ≡ G = rw g.is (take_at G (drop (4 * i) w₀) (4 * i) g.front) in
      let d : drop (4 * i) w ≡ drop (4 * i) w₀ = rw g.is (drop_at G (drop (4 * i) w₀) (4 * i) g.front) in
      let a_is : a ≡ next_word nk i G = rw t at e in
      record {
        least = omega (arith, g.least);
        most = omega arith;
        long = same_len_mid (4 * i) (4 * i + 4 - 4 * i) w new (ap length new_is ∙ omega arith) ∙ g.long;
        front = rw (n, k, length-append, ← a_is) (omega (arith, g.front));
        is = rw (n, k, ← a_is, new_is, t, d, m, add-sub_cancel_left, drop-drop, append_assoc) refl;
      }

  pub grew_all : (w : List ℕ) (i : ℕ) → Grew w₀ nk words w i → words ≤ i → length w₀ ≡ 4 * words → w ≡ expanded nk (words - nk) (take (4 * nk) w₀)
  grew_all w i g e l =
      let h : length w₀ ≤ 4 * i = omega arith in
      let q : i ≡ words = omega (arith, g.most) in
      g.is ∙ rw (drop_of_length-le w₀ h, append-nil, q) refl
