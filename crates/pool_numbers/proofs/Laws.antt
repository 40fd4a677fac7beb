-- Bytes that are written over a part. Assumes nothing.
use Prim.Native.Nat.{ℕ}
use mathlib.Core.Path.{◌≡◌, refl, ◌∙◌}
use mathlib.Core.List.{List, ◌++◌, append-nil}
use lib.ListN.{length, take, drop}
use lib.Seq.{take-length, drop-length}
use Rattle.pool_numbers.specs.Numbers.{number_bytes}

-- a part overwritten by as many bytes
overwritten : (b part new : List ℕ) → length b ≡ length part → new ≡ take (length b) b ++ drop (length b) part → new ≡ b
overwritten b part new e h = h ∙ rw (e, drop-length part, ← e, take-length b, append-nil b) refl

-- an array by its elements, and copied over a part that begins with as many bytes
pub copied : (b all part new : List ℕ) (n : ℕ) → b ≡ all → length all ≡ n → n ≡ length part → new ≡ take (length b) b ++ drop (length b) part → new ≡ all
copied b all part new n e f g h = overwritten all part new (f ∙ g) (h ∙ rw e refl)

pub number_length : (n : ℕ) → length (number_bytes n) ≡ 4
unfolding number_bytes
number_length n = refl
