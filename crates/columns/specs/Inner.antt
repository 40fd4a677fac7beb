-- The columns of MixColumns one at a time, for private contracts. No promise rests on this.
use Rattle.std.specs.Prelude.{ℕ, Bool, true, false, List, [], ◌∷◌, ◌++◌, get_or, take, drop}
use Rattle.fips197.specs.Field.{◌⊕◌, ◌•◌}

-- a byte of a column from those of its own row and of the rows below it, in turn
unfoldable pub mix_byte : ℕ → ℕ → ℕ → ℕ → ℕ
mix_byte a b c d = 0x02 • a ⊕ 0x03 • b ⊕ 0x01 • c ⊕ 0x01 • d

unfoldable pub inv_mix_byte : ℕ → ℕ → ℕ → ℕ → ℕ
inv_mix_byte a b c d = 0x0e • a ⊕ 0x0b • b ⊕ 0x0d • c ⊕ 0x09 • d

-- the one, or for the inverse the other
unfoldable pub byte_by : Bool → ℕ → ℕ → ℕ → ℕ → ℕ
byte_by false = mix_byte
byte_by true = inv_mix_byte

-- the four bytes of a column
unfoldable pub column_of : (ℕ → ℕ → ℕ → ℕ → ℕ) → List ℕ → List ℕ
column_of f l =
    f (get_or l 0 0) (get_or l 1 0) (get_or l 2 0) (get_or l 3 0) ∷
    f (get_or l 1 0) (get_or l 2 0) (get_or l 3 0) (get_or l 0 0) ∷
    f (get_or l 2 0) (get_or l 3 0) (get_or l 0 0) (get_or l 1 0) ∷
    f (get_or l 3 0) (get_or l 0 0) (get_or l 1 0) (get_or l 2 0) ∷ []

-- and of a state its columns at 0, 4, 8 and 12
unfoldable pub columns_of : (ℕ → ℕ → ℕ → ℕ → ℕ) → List ℕ → List ℕ
columns_of f l =
    column_of f (take 4 l) ++ (column_of f (take 4 (drop 4 l)) ++ (column_of f (take 4 (drop 8 l)) ++ column_of f (take 4 (drop 12 l))))
