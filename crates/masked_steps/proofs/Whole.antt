-- The reader hands out a whole record or nothing. Assumes nothing.
use Prim.Native.Nat.{ℕ, ◌+◌, ◌*◌, ◌≤◌, ◌<◌}
use native.Mathlib.Omega.{arith}
use mathlib.Core.Path.{◌≡◌, refl}
use mathlib.Core.List.{List, []}
use mathlib.Core.Logic.{⊎_elim}
use lib.ListN.{length, take, drop, length-take, length-drop}
use borrow.Author.Tests.{lt-ltb, le-ltb}
use Rattle.fips197.proofs.Below.{below_or_not}
use Rattle.strip.specs.Strip.{whole_record}

abbrev pub Whole : List ℕ → Type 0
Whole l = length l < 3 → l ≡ []

pub whole_record_law : (s : List ℕ) (i : ℕ) → Whole (whole_record s i)
unfolding whole_record
whole_record_law s i =
    ⊎_elim (λ g. rw (lt-ltb (length s) (4 + 3 * i + 3) g) (λ h. refl))
    (λ g. rw (le-ltb (length s) (4 + 3 * i + 3) g) (λ h. absurd (short g h)))
    (below_or_not (length s) (4 + 3 * i + 3))
  where
    short : 4 + 3 * i + 3 ≤ length s → length (take 3 (drop (4 + 3 * i) s)) < 3 → ⊥
    short g h = let l : length (take 3 (drop (4 + 3 * i) s)) ≡ 3 = rw (length-take, length-drop) (omega arith) in omega arith
