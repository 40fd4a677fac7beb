-- What a call answers: its values, or a refusal.
use Rattle.std.specs.Prelude.{ℕ, List, [], ◌∷◌, Bool, true, false, not, ◌&&◌, eqb, ltb, Result, Ok, Err}
use Rattle.refusal.specs.declared.Refusal.{Refusal}
use Rattle.refusal.specs.Refusal.{number, refusal}

abbrev pub Answer : Type 0 → Type 0
Answer A = Result A Refusal

-- zero means done
abbrev pub answer_number : {A : Type 0} → Answer A → ℕ
answer_number (Ok a) = 0
answer_number (Err r) = number r

-- an answer over C: its number, and the lent parts
abbrev pub numbered : {L : Type 0} → Answer (Unit {0}) × L → ℕ × L
numbered (a, lent) = (answer_number a, lent)

-- what a check answers by itself: its refusal, where it applies
abbrev pub refused_if : Refusal → Bool → Answer (Unit {0})
refused_if r true = Err r
refused_if r false = Ok tt

-- rule 5.2, the first that applies is given: the refusal numbers in their order, each with whether it applies; what a refusal gives; and what is given where none applies
unfoldable pub first : {X : Type 0} → List (ℕ × Bool) → (Refusal → X) → X → X
first [] deny give = give
first ((n, true) ∷ checks) deny give = deny (refusal n)
first ((n, false) ∷ checks) deny give = first checks deny give

-- whether no check of a list applies
unfoldable pub passes : List (ℕ × Bool) → Bool
passes checks = first checks (λ r. false) true

-- what checks ask: whether a number is above the most allowed, is not the one wanted, or is none of those wanted
abbrev pub above : ℕ → ℕ → Bool
above most x = ltb most x

abbrev pub is_not : ℕ → ℕ → Bool
is_not wanted x = not (eqb x wanted)

abbrev pub none_of : List ℕ → ℕ → Bool
none_of [] x = true
none_of (wanted ∷ others) x = is_not wanted x && none_of others x
