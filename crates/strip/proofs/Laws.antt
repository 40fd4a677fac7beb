-- The record bytes of a strip give way to others as many, and its length stays. Assumes nothing.
use Prim.Native.Nat.{ℕ, ◌+◌, ◌-◌}
use mathlib.Core.Path.{◌≡◌, ◌∙◌}
use mathlib.Core.List.{List, ◌++◌}
use lib.ListN.{length, take, drop, set, length-set}
use borrow.Rule.Slice.PartMut.{same_len_mid}

-- how many bytes stand from the fifth on
abbrev pub counted : List ℕ → ℕ
counted s = 4 + (length s - 4) - 4

pub wiped_same : (s z : List ℕ) → length z ≡ length (take (counted s) (drop 4 (set s 2 0)))
    → length (take 4 (set s 2 0) ++ (z ++ drop (counted s) (drop 4 (set s 2 0)))) ≡ length s
wiped_same s z e = same_len_mid 4 (counted s) (set s 2 0) z e ∙ length-set s 2 0
