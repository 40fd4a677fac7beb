-- Strips at the edges of what is refused, computed from the specification. Assumes nothing.
use Prim.Native.Nat.{ℕ}
use mathlib.Core.Path.{◌≡◌, refl}
use mathlib.Core.List.{List, [], ◌∷◌}
use lib.ListN.{replicate}
use Rattle.std.specs.Prelude.{Ok, Err}
use Rattle.refusal.specs.declared.Refusal.TheVariants.{BadFraming, UnknownVersion, OtherKeySize, BadRecord, Spent, WrongRecordBytes}
use Rattle.refusal.specs.Answer.{first}
use Rattle.strip.specs.Strip.{bad_framing, spent, unknown_version, wrong_record_bytes, bad_third, form_of, whole_record, record_part, wiped}

-- a strip for 16-byte keys of 484 bytes: the low byte of its length field, its version, and the third byte of its first record are given
abbrev strip16 : ℕ → ℕ → ℕ → List ℕ
strip16 low v third = 1 ∷ low ∷ v ∷ 16 ∷ 89 ∷ 60 ∷ third ∷ replicate 477 0

-- one name to compute by
unfoldable computed : Unit {0}
unfolding first bad_framing spent unknown_version wrong_record_bytes bad_third whole_record wiped
computed = tt

-- a third byte of 3 passes and one of 4 is refused; a record of zeros is a good one
third_3 : form_of (strip16 226 1 3) 16 ≡ Ok tt
unfolding computed
third_3 = refl

third_4 : form_of (strip16 226 1 4) 16 ≡ Err BadRecord
unfolding computed
third_4 = refl

-- a strip of 484 bytes has a length field of 482; one of 484 gets 7
field_484 : form_of (strip16 228 1 3) 16 ≡ Err BadFraming
unfolding computed
field_484 = refl

-- an empty strip gets 7
empty : form_of [] 16 ≡ Err BadFraming
unfolding computed
empty = refl

-- a strip that has served gets 11
again : form_of (wiped (strip16 226 1 3)) 16 ≡ Err Spent
unfolding computed
again = refl

-- 11 comes whatever key size or record bytes a spent strip has; 8 for a version that is neither 0 nor 1
spent_short : form_of (0 ∷ 2 ∷ 0 ∷ 77 ∷ []) 16 ≡ Err Spent
unfolding computed
spent_short = refl

version_2 : form_of (strip16 226 2 3) 16 ≡ Err UnknownVersion
unfolding computed
version_2 = refl

-- 9 before 12, and 12 before 10
nine_first : form_of (0 ∷ 2 ∷ 1 ∷ 16 ∷ []) 24 ≡ Err OtherKeySize
unfolding computed
nine_first = refl

twelve_first : form_of (0 ∷ 5 ∷ 1 ∷ 16 ∷ 89 ∷ 60 ∷ 4 ∷ []) 16 ≡ Err WrongRecordBytes
unfolding computed
twelve_first = refl

-- the reader: the first record, the last, one past the last; and none of a spent strip
record_0 : record_part (strip16 226 1 3) 0 ≡ 89 ∷ 60 ∷ 3 ∷ []
unfolding computed
record_0 = refl

record_159 : record_part (strip16 226 1 3) 159 ≡ 0 ∷ 0 ∷ 0 ∷ []
unfolding computed
record_159 = refl

record_160 : record_part (strip16 226 1 3) 160 ≡ []
unfolding computed
record_160 = refl

record_spent : record_part (strip16 226 0 3) 0 ≡ []
unfolding computed
record_spent = refl
