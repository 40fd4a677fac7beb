-- A length found among those wanted, as a slice finds it and as `none_of` has it. Assumes nothing.
use Prim.Native.Nat.{ℕ}
use mathlib.Core.Path.{◌≡◌, refl, sym, ◌∙◌}
use mathlib.Core.List.{List, [], ◌∷◌}
use mathlib.Core.Bool.{Bool, true, false, not, ◌&&◌, ◌||◌}
use lib.Dec.{eqb}
use borrow.Author.Tests.{eqb-true, eq-eqb}
use Rattle.std.specs.List.{list_any}
use Rattle.std.specs.Prelude.{Ok, Err}
use Rattle.refusal.specs.declared.Refusal.{Refusal}
use Rattle.refusal.specs.Answer.{Answer, refused_if, none_of}

eqb_turn : (x y : ℕ) → eqb x y ≡ eqb y x
eqb_turn x y = split (eqb x y) (eqb y x) refl refl
  where
    split : (a b : Bool) → eqb x y ≡ a → eqb y x ≡ b → eqb x y ≡ eqb y x
    split true b e f = e ∙ sym (eq-eqb y x (sym (eqb-true x y e)))
    split false true e f = eq-eqb x y (sym (eqb-true y x f)) ∙ sym f
    split false false e f = e ∙ sym f

either : (a b : Bool) → (a || not b) ≡ not (not a && b)
either true b = refl
either false b = refl

pub among : (wanted : List ℕ) (x : ℕ) → list_any (λ y. eqb y x) wanted ≡ not (none_of wanted x)
among [] x = refl
among (w ∷ ws) x = rw (eqb_turn w x, among ws x) (either (eqb x w) (none_of ws x))

pub there : (wanted : List ℕ) (x : ℕ) → list_any (λ y. eqb y x) wanted ≡ true → none_of wanted x ≡ false
there wanted x f = split (none_of wanted x) (sym (among wanted x) ∙ f)
  where
    split : (n : Bool) → not n ≡ true → n ≡ false
    split true g = sym g
    split false g = refl

pub absent : (wanted : List ℕ) (x : ℕ) → list_any (λ y. eqb y x) wanted ≡ false → none_of wanted x ≡ true
absent wanted x f = split (none_of wanted x) (sym (among wanted x) ∙ f)
  where
    split : (n : Bool) → not n ≡ false → n ≡ true
    split true g = refl
    split false g = sym g

-- What a check answers, where `found` says whether the slice has the length.
module _ (wanted : List ℕ) (x : ℕ) (found : Bool) (e : found ≡ list_any (λ y. eqb y x) wanted) where
  pub is_among : (r : Refusal) → found ≡ true → ◌≡◌ {A = Answer (Unit {0})} (Ok tt) (refused_if r (none_of wanted x))
  is_among r f = rw (there wanted x (sym e ∙ f)) refl

  pub is_none : (r : Refusal) → found ≡ false → ◌≡◌ {A = Answer (Unit {0})} (Err r) (refused_if r (none_of wanted x))
  is_none r f = rw (absent wanted x (sym e ∙ f)) refl
