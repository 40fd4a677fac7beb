-- What the answer of a check makes of `first`, for the proofs of calls: it stops there, or goes on to the next. Assumes nothing.
use Prim.Native.Nat.{ℕ}
use mathlib.Core.Path.{◌≡◌, refl, sym, ap, ◌∙◌}
use mathlib.Core.List.{List, [], ◌∷◌, ◌++◌}
use mathlib.Core.Bool.{Bool, true, false, not, ◌&&◌, ◌||◌}
use native.Mathlib.Omega.{arith}
use lib.Dec.{eqb}
use borrow.Author.Tests.{eqb-true}
use Rattle.std.specs.Prelude.{Ok, Err}
use Rattle.refusal.specs.declared.Refusal.{Refusal}
use Rattle.refusal.specs.Refusal.{refusal}
use Rattle.refusal.specs.Answer.{Answer, refused_if, first, passes, is_not, none_of}

-- two cases that exclude each other
pub clash : {P : Type 0} → ◌≡◌ {A = ℕ} 0 1 → P
clash e = absurd (omega arith)

pub true_false : true ≡ false → ⊥
true_false e = clash cc

-- what one check has shown: that it applies, or that it does not
module _ (r : Refusal) (b : Bool) (k : Answer (Unit {0})) where
  pub applies : k ≡ refused_if r b → (s : Refusal) → k ≡ Err s → (b ≡ true) × (s ≡ r)
  applies e s f = split b e
    where
      split : (t : Bool) → k ≡ refused_if r t → (t ≡ true) × (s ≡ r)
      split true e = (refl, cc)
      split false e = clash cc

  pub passed : k ≡ refused_if r b → (u : Unit {0}) → k ≡ Ok u → b ≡ false
  passed e u f = split b e
    where
      split : (t : Bool) → k ≡ refused_if r t → t ≡ false
      split true e = clash cc
      split false e = refl

module _ {X : Type 0} (n : ℕ) (b : Bool) (checks : List (ℕ × Bool)) (deny : Refusal → X) (give : X) where
  -- where it is known whether the check applies
  pub first_now : true ≡ b → deny (refusal n) ≡ first ((n, b) ∷ checks) deny give
  unfolding first
  first_now e = ap (λ (t : Bool). first ((n, t) ∷ checks) deny give) e

  pub first_skip : (x : X) → false ≡ b → x ≡ first checks deny give → x ≡ first ((n, b) ∷ checks) deny give
  unfolding first
  first_skip x e h = h ∙ ap (λ (t : Bool). first ((n, t) ∷ checks) deny give) e

  -- where the check has answered
  pub first_stop : (x : X) (k : Answer (Unit {0})) (r : Refusal) → k ≡ refused_if (refusal n) b → k ≡ Err r → x ≡ deny r → x ≡ first ((n, b) ∷ checks) deny give
  first_stop x k r e f h =
      let a = applies (refusal n) b k e r f in
      h ∙ ap deny a.1 ∙ first_now (sym a.0)

  pub first_on : (x : X) (k : Answer (Unit {0})) (u : Unit {0}) → k ≡ refused_if (refusal n) b → k ≡ Ok u → x ≡ first checks deny give → x ≡ first ((n, b) ∷ checks) deny give
  first_on x k u e f h = first_skip x (sym (passed (refusal n) b k e u f)) h

pub first_done : {X : Type 0} (deny : Refusal → X) (give x : X) → x ≡ give → x ≡ first [] deny give
unfolding first
first_done deny give x h = h

both_on : (b : Bool) → b ≡ (b && true)
both_on true = refl
both_on false = refl

-- a check among several lengths: this one is it, or it is looked for among the others
module _ (r : Refusal) (wanted x : ℕ) (others : List ℕ) (k : Answer (Unit {0})) where
  pub none_found : k ≡ refused_if r (is_not wanted x) → (u : Unit {0}) → k ≡ Ok u → false ≡ none_of (wanted ∷ others) x
  none_found e u p = ap (λ (t : Bool). (t && none_of others x)) (sym (passed r (is_not wanted x) k e u p))

  pub none_yet : (b : Bool) → k ≡ refused_if r (is_not wanted x) → (s : Refusal) → k ≡ Err s → b ≡ none_of others x → b ≡ none_of (wanted ∷ others) x
  none_yet b e s f h = h ∙ ap (λ (t : Bool). (t && none_of others x)) (sym (applies r (is_not wanted x) k e s f).0)

pub none_last : (wanted x : ℕ) (b : Bool) → b ≡ is_not wanted x → b ≡ none_of (wanted ∷ []) x
none_last wanted x b e = e ∙ both_on (is_not wanted x)

one_of : {P : Type 0} (x y z : Bool) → (not x && (not y && (not z && true))) ≡ false → (x ≡ true → P) → (y ≡ true → P) → (z ≡ true → P) → P
one_of true y z e f g h = f refl
one_of false true z e f g h = g refl
one_of false false true e f g h = h refl
one_of false false false e f g h = clash cc

-- which of three lengths is the one, where it is none of no others
pub found : {P : Type 0} (a b c n : ℕ) → none_of (a ∷ b ∷ c ∷ []) n ≡ false → (n ≡ a → P) → (n ≡ b → P) → (n ≡ c → P) → P
found a b c n e f g h =
    one_of (eqb n a) (eqb n b) (eqb n c) e (λ x. f (eqb-true n a x)) (λ x. g (eqb-true n b x)) (λ x. h (eqb-true n c x))

-- where not one of two applies, neither does
pub neither : (a b : Bool) → (a || b) ≡ false → (a ≡ false) × (b ≡ false)
neither true b e = clash cc
neither false b e = (refl, e)

pub both_true : (a b : Bool) → (a && b) ≡ true → (a ≡ true) × (b ≡ true)
both_true true b e = (refl, e)
both_true false b e = clash cc

-- An answer passed on from a call below with the same checks. `tell` is what it says: the call's own refusal, or done.
module _ {X A : Type 0} (deny : Refusal → X) (tell : X → Answer A) (tells : (r : Refusal) → tell (deny r) ≡ Err r) where
  pub refusal_passed : (checks : List (ℕ × Bool)) (give give' x : X) (r : Refusal) (p : A) → tell x ≡ Err r → tell give ≡ Ok p
      → x ≡ first checks deny give → x ≡ first checks deny give'
  unfolding first
  refusal_passed [] give give' x r p t g e = clash cc
  refusal_passed ((n, true) ∷ checks) give give' x r p t g e = e
  refusal_passed ((n, false) ∷ checks) give give' x r p t g e = refusal_passed checks give give' x r p t g e

  pub answer_passed : (checks : List (ℕ × Bool)) (give give' x : X) (v : A) → tell x ≡ Ok v → x ≡ first checks deny give
      → (x ≡ give) × (give' ≡ first checks deny give')
  unfolding first
  answer_passed [] give give' x v t e = (e, refl)
  answer_passed ((n, true) ∷ checks) give give' x v t e =
      let f : ◌≡◌ {A = Answer A} (Err (refusal n)) (Ok v) = sym (tells (refusal n)) ∙ ap tell (sym e) ∙ t in
      clash cc
  answer_passed ((n, false) ∷ checks) give give' x v t e = answer_passed checks give give' x v t e

-- what the checks alone answered, for a call that also lends parts
module _ {X A : Type 0} (deny : Refusal → X) (give : X) (y : A) where
  pub all_passed : (checks : List (ℕ × Bool)) (x : Answer A) (z : A) → x ≡ first checks Err (Ok y) → x ≡ Ok z → (give ≡ first checks deny give) × (z ≡ y)
  unfolding first
  all_passed [] x z e f = (refl, cc)
  all_passed ((n, true) ∷ checks) x z e f = clash cc
  all_passed ((n, false) ∷ checks) x z e f = all_passed checks x z e f

  pub one_failed : (checks : List (ℕ × Bool)) (x : Answer A) (r : Refusal) → x ≡ first checks Err (Ok y) → x ≡ Err r → deny r ≡ first checks deny give
  unfolding first
  one_failed [] x r e f = clash cc
  one_failed ((n, true) ∷ checks) x r e f = let g : refusal n ≡ r = cc in ap deny (sym g)
  one_failed ((n, false) ∷ checks) x r e f = one_failed checks x r e f

-- checks in two parts, the first already answered: its refusal stands, or the second part decides
module _ {X A : Type 0} (rest : List (ℕ × Bool)) (deny : Refusal → X) (give : X) (x : Answer A) (y : A) where
  pub front_failed : (front : List (ℕ × Bool)) (r : Refusal) → x ≡ first front Err (Ok y) → x ≡ Err r → deny r ≡ first (front ++ rest) deny give
  unfolding first
  front_failed [] r e f = clash cc
  front_failed ((n, true) ∷ front) r e f = let g : refusal n ≡ r = cc in ap deny (sym g)
  front_failed ((n, false) ∷ front) r e f = front_failed front r e f

  pub front_passed : (front : List (ℕ × Bool)) (v : X) (z : A) → x ≡ first front Err (Ok y) → x ≡ Ok z → v ≡ first rest deny give → v ≡ first (front ++ rest) deny give
  unfolding first
  front_passed [] v z e f h = h
  front_passed ((n, true) ∷ front) v z e f h = clash cc
  front_passed ((n, false) ∷ front) v z e f h = front_passed front v z e f h

-- where none is refused, no check of the list applies
pub call_passes : (checks : List (ℕ × Bool)) (v : Answer (Unit {0})) → v ≡ first checks Err (Ok tt) → (u : Unit {0}) → v ≡ Ok u → passes checks ≡ true
unfolding passes
call_passes checks v e u f = sym (all_passed (λ r. false) true tt checks v u e f).0

pub passes_first : (n : ℕ) (b : Bool) (checks : List (ℕ × Bool)) → passes ((n, b) ∷ checks) ≡ true → (b ≡ false) × (passes checks ≡ true)
unfolding passes first
passes_first n true checks e = absurd (true_false (sym e))
passes_first n false checks e = (refl, e)

-- and of two lists of checks, none of either
pub passes_both : (k l : List (ℕ × Bool)) → passes (k ++ l) ≡ true → (passes k ≡ true) × (passes l ≡ true)
unfolding passes first
passes_both [] l e = (refl, e)
passes_both ((n, true) ∷ k) l e = absurd (true_false (sym e))
passes_both ((n, false) ∷ k) l e = passes_both k l e

-- a part of what is given, or of what a refusal gives
pub first_part : {X Y : Type 0} (part : X → Y) (checks : List (ℕ × Bool)) (deny : Refusal → X) (give : X) → part (first checks deny give) ≡ first checks (λ r. part (deny r)) (part give)
unfolding first
first_part part [] deny give = refl
first_part part ((n, true) ∷ checks) deny give = refl
first_part part ((n, false) ∷ checks) deny give = first_part part checks deny give

-- A call that checks, then does: it lends parts, and leaves them new where its checks pass.
module _ {X : Type 0} (checks : List (ℕ × Bool)) (lent new : X) (v : Answer (Unit {0})) (e : v ≡ first checks Err (Ok tt)) where
  pub call_refused : (r : Refusal) → v ≡ Err r → ◌≡◌ {A = Answer (Unit {0}) × X} (Err r, lent) (first checks (λ r. (Err r, lent)) (Ok tt, new))
  call_refused r f = one_failed (λ r. (Err r, lent)) (Ok tt, new) tt checks v r e f

  pub call_done : (u : Unit {0}) → v ≡ Ok u → (x : X) → x ≡ new → ◌≡◌ {A = Answer (Unit {0}) × X} (Ok tt, x) (first checks (λ r. (Err r, lent)) (Ok tt, new))
  call_done u f x h = ap (λ (y : X). (Ok tt, y)) h ∙ (all_passed (λ r. (Err r, lent)) (Ok tt, new) tt checks v u e f).0
