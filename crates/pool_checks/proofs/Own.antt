-- A refusal of a strip's own check, behind the checks before it that have passed. Assumes nothing.
use Prim.Native.Nat.{ℕ}
use mathlib.Core.Path.{◌≡◌, refl}
use mathlib.Core.List.{List, [], ◌∷◌, ◌++◌}
use mathlib.Core.Bool.{Bool, true, false, ◌||◌}
use Rattle.std.specs.Prelude.{Ok, Err}
use Rattle.refusal.specs.declared.Refusal.{Refusal}
use Rattle.refusal.specs.Refusal.{refusal}
use Rattle.refusal.specs.Answer.{Answer, refused_if, first}
use Rattle.refusal.proofs.First.{front_failed}
use Rattle.strip.specs.Strip.{own_checks, own_form_of}

abbrev Passed : Answer (Unit {0}) → Type 0
Passed x = Ok tt ≡ x

pub own_refused : (s : List ℕ) (rest : List (ℕ × Bool)) (r : Refusal) → ◌≡◌ {A = Answer (Unit {0})} (Err r) (own_form_of s)
    → (lent standby waiting used_up : Bool) → Passed (refused_if (refusal 6) lent) → Passed (refused_if (refusal 6) standby) → Passed (first ((23, waiting) ∷ (24, used_up) ∷ []) Err (Ok tt))
    → ◌≡◌ {A = Answer (Unit {0})} (Err r) (first ((6, (lent || standby)) ∷ (23, waiting) ∷ (24, used_up) ∷ own_checks s ++ rest) Err (Ok tt))
unfolding first
own_refused s rest r e true b w u f g h = cc
own_refused s rest r e false true w u f g h = cc
own_refused s rest r e false false true u f g h = cc
own_refused s rest r e false false false true f g h = cc
own_refused s rest r e false false false false f g h = front_failed rest Err (Ok tt) (Err r) tt (own_checks s) r e refl
