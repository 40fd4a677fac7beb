-- A promise that is one equation allows one answer, whatever its type, lent parts and all; and that of each kind of answer. Assumes nothing.
use Prim.Native.Nat.{ℕ}
use mathlib.Core.Path.{◌≡◌, sym, ◌∙◌}
use mathlib.Core.List.{List}
use mathlib.Core.Bool.{Bool}
use Rattle.refusal.specs.declared.Refusal.{Refusal}
use Rattle.refusal.specs.Answer.{Answer, refused_if}

pub unique : {R : Type 0} (promised a b : R) → a ≡ promised → b ≡ promised → a ≡ b
unique promised a b e f = e ∙ sym f

-- a check: whether it applies tells its answer
pub check_told : (r : Refusal) (x y : Bool) (a b : Answer (Unit {0})) → a ≡ refused_if r x → b ≡ refused_if r y → x ≡ y → a ≡ b
check_told r x y a b e f g = e ∙ mathlib.Core.Path.ap (refused_if r) g ∙ sym f

-- a call without a value, with lent parts or without
pub outcome_unique : (promised a b : Answer (Unit {0})) → a ≡ promised → b ≡ promised → a ≡ b
outcome_unique = unique

pub outcome_unique_with : {L : Type 0} (promised a b : Answer (Unit {0}) × L) → a ≡ promised → b ≡ promised → a ≡ b
outcome_unique_with = unique

-- a pair or a nibble
pub element_unique : (promised a b : Answer ℕ) → a ≡ promised → b ≡ promised → a ≡ b
element_unique = unique

-- a masked byte and its mask, with points or without
pub masked_unique : (promised a b : Answer (ℕ × ℕ)) → a ≡ promised → b ≡ promised → a ≡ b
masked_unique = unique

pub masked_unique_with : (promised a b : Answer (ℕ × ℕ) × List ℕ) → a ≡ promised → b ≡ promised → a ≡ b
masked_unique_with = unique
