-- The rows of ShiftRows one at a time, for private contracts. No promise rests on this.
use Rattle.std.specs.Prelude.{ℕ, ◌+◌, ◌%◌, List, get_or, set}

-- the bytes of one row, read round from place n on; the other rows as they are
unfoldable pub row_from : ℕ → ℕ → List ℕ → List ℕ
row_from row n l =
    set (set (set (set l row (get_or l n 0)) (row + 4) (get_or l ((n + 4) % 16) 0)) (row + 8) (get_or l ((n + 8) % 16) 0)) (row + 12)
    (get_or l ((n + 12) % 16) 0)
