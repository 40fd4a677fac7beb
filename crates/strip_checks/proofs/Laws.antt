-- What a record read off a list of records makes of whether one of them is bad. Assumes nothing.
use Prim.Native.Nat.{ℕ, ◌≤◌, ◌<◌}
use mathlib.Core.Path.{◌≡◌, refl, sym, ap, ◌∙◌}
use mathlib.Core.List.{List, [], ◌∷◌, ◌++◌}
use mathlib.Core.Bool.{Bool, true, false, ◌||◌}
use native.Mathlib.Omega.{arith}
use lib.ListN.{length, get_or}
use borrow.Author.Tests.{lt-ltb, le-ltb}
use Rattle.std.specs.Prelude.{Ok, Err}
use Rattle.refusal.specs.declared.Refusal.{Refusal}
use Rattle.refusal.specs.Answer.{Answer, refused_if, first, above, is_not, none_of}
use Rattle.strip.specs.Strip.{key_size, bad_third, check_list, form_of, own_form_of}

third_first : (c r : List ℕ) → length c ≡ 3 → bad_third (c ++ r) ≡ (above 3 (get_or c 2 0) || bad_third r)
unfolding bad_third
third_first [] r h = absurd (omega arith)
third_first (a ∷ []) r h = absurd (omega arith)
third_first (a ∷ b ∷ []) r h = absurd (omega arith)
third_first (a ∷ b ∷ third ∷ []) r h = refl
third_first (a ∷ b ∷ third ∷ d ∷ c) r h = absurd (omega arith)

third_none : (l : List ℕ) → length l < 3 → bad_third l ≡ false
unfolding bad_third
third_none [] h = refl
third_none (a ∷ []) h = refl
third_none (a ∷ b ∷ []) h = refl
third_none (a ∷ b ∷ third ∷ l) h = absurd (omega arith)

-- the records that are left, of which the first is read
module _ (left first_one others : List ℕ) (bad : Bool) (b : bad ≡ bad_third left) (e : left ≡ first_one ++ others) (h : length first_one ≡ 3) where
  pub third_stop : 3 < get_or first_one 2 0 → true ≡ bad
  third_stop g = sym (b ∙ ap bad_third e ∙ third_first first_one others h ∙ rw (lt-ltb _ _ g) refl)

  pub third_on : get_or first_one 2 0 ≤ 3 → bad ≡ bad_third others
  third_on g = b ∙ ap bad_third e ∙ third_first first_one others h ∙ rw (le-ltb _ _ g) refl

pub third_all : (left : List ℕ) (bad : Bool) → bad ≡ bad_third left → length left < 3 → bad ≡ false
third_all left bad b h = b ∙ third_none left h

pub refusing : (r : Refusal) (b : Bool) → true ≡ b → ◌≡◌ {A = Answer (Unit {0})} (Err r) (refused_if r b)
refusing r b e = ap (refused_if r) e

pub passing : (r : Refusal) (b : Bool) → b ≡ false → ◌≡◌ {A = Answer (Unit {0})} (Ok tt) (refused_if r b)
passing r b e = sym (ap (refused_if r) e)

-- the checks in their order, for the key sizes that a call takes
module _ (s : List ℕ) (k : ℕ) (e : k ≡ key_size s) (x : Answer (Unit {0})) (t : Bool) (h : x ≡ first (check_list s t) Err (Ok tt)) where
  pub for_block : (size : ℕ) → t ≡ is_not size k → x ≡ form_of s size
  for_block size g = h ∙ rw (g, e) refl

  pub for_none_yet : t ≡ none_of (16 ∷ 24 ∷ 32 ∷ []) k → x ≡ own_form_of s
  for_none_yet g = h ∙ rw (g, e) refl
