-- The points in cells, and the order in which they are made. Only contracts of private functions cite this: no promise rests on it, and nobody need believe it.
use Rattle.std.specs.Prelude.{ℕ, zero, suc, ◌-◌, ◌*◌, ◌/◌, ◌%◌, ◌^◌, ◌≡◌, List, [], ◌∷◌, get_or, set, replicate}
use Rattle.fips197.specs.Field.{◌⊕◌}
use Rattle.points.specs.Points.{record_points}
use Rattle.tower.specs.Tower.{hi, lo, exchange, pair_product, nibble_product}
use Rattle.tower.specs.declared.Record.{Record}
use Rattle.cells.specs.declared.Masks.{Masks}
use Rattle.cells.specs.declared.Nibbles.{Nibbles}
use Rattle.cells.specs.declared.Pairs.{Pairs}

-- number y of a row: sixteen numbers of four bits that stand side by side from bit 62 down, number 0 being zero
unfoldable pub entry : ℕ → ℕ → ℕ
entry row y = row / 2 ^ (63 - y % 16 * 4) % 16

-- the row of what f gives
abbrev pub RowOf : (ℕ → ℕ) → ℕ → Type 0
RowOf f row = (y : ℕ) → entry row y ≡ f y

-- point n of a record
abbrev pub at : ℕ → ℕ → ℕ → Record → ℕ
at n a m ρ = get_or (record_points a m ρ) (n - 1) 0

-- what one part of the work hands to the next: halves, rows of the product tables, and points
abbrev pub MasksOf : ℕ → ℕ → Record → Masks → Type 0
MasksOf a m ρ masks =
    (masks.m1 ≡ hi 4 m) × (masks.m0 ≡ lo 4 m) × (masks.q1 ≡ hi 2 (hi 4 ρ.qt)) × (masks.q0 ≡ lo 2 (hi 4 ρ.qt))
    × RowOf (nibble_product (hi 4 m)) masks.row_m1 × RowOf (nibble_product (lo 4 ρ.qt)) masks.row_t
    × RowOf (pair_product (hi 2 (hi 4 ρ.qt))) masks.row_q1 × RowOf (pair_product (exchange ρ.r)) masks.row_p30
    × (masks.p4 ≡ at 4 a m ρ) × (masks.p8 ≡ at 8 a m ρ) × (masks.p18 ≡ at 18 a m ρ) × (masks.p22 ≡ at 22 a m ρ)

abbrev pub NibblesOf : ℕ → ℕ → Record → Nibbles → Type 0
NibblesOf a m ρ nibbles =
    (nibbles.a1 ≡ hi 4 a) × (nibbles.a0 ≡ lo 4 a) × (nibbles.b ≡ at 14 a m ρ)
    × (nibbles.p48 ≡ at 48 a m ρ) × (nibbles.p50 ≡ at 50 a m ρ) × (nibbles.p56 ≡ at 56 a m ρ) × (nibbles.p58 ≡ at 58 a m ρ)

abbrev pub PairsOf : ℕ → ℕ → Record → Pairs → Type 0
PairsOf a m ρ pairs =
    (pairs.b1 ≡ hi 2 (at 14 a m ρ)) × (pairs.b0 ≡ lo 2 (at 14 a m ρ)) × (pairs.p28 ≡ at 28 a m ρ)
    × (pairs.p32 ≡ at 32 a m ρ) × (pairs.p34 ≡ at 34 a m ρ) × (pairs.p40 ≡ at 40 a m ρ) × (pairs.p42 ≡ at 42 a m ρ)

-- some of the points put into their cells: the low byte of point n into cell 2n, so that no two stand side by side
unfoldable pub laid : List ℕ → List ℕ → List ℕ → List ℕ
laid [] points cells = cells
laid (n ∷ ns) points cells = laid ns points (set cells (n * 2) (get_or points (n - 1) 0 % 256))

-- running sums, each put into its cell: to a sum so far, values are added in order
unfoldable pub summed : List (ℕ × ℕ) → ℕ → List ℕ → List ℕ
summed [] sum cells = cells
summed ((n, value) ∷ more) sum cells = summed more (sum ⊕ value) (set cells (n * 2) ((sum ⊕ value) % 256))

-- the points that the parts of the work make, each part in its order
abbrev pub parts : List (List ℕ)
parts =
    (17 ∷ 18 ∷ 3 ∷ 4 ∷ 8 ∷ 30 ∷ 22 ∷ [])
    ∷ (1 ∷ 2 ∷ 56 ∷ 5 ∷ 48 ∷ 7 ∷ 58 ∷ 50 ∷ 6 ∷ 9 ∷ 10 ∷ 11 ∷ 12 ∷ 13 ∷ 14 ∷ [])
    ∷ (15 ∷ 16 ∷ 40 ∷ 19 ∷ 32 ∷ 21 ∷ 42 ∷ 34 ∷ 20 ∷ 23 ∷ 24 ∷ 25 ∷ 26 ∷ 27 ∷ 28 ∷ [])
    ∷ (29 ∷ 39 ∷ 31 ∷ 41 ∷ 33 ∷ 35 ∷ 36 ∷ 37 ∷ 38 ∷ 43 ∷ 44 ∷ 45 ∷ 46 ∷ [])
    ∷ (47 ∷ 55 ∷ 49 ∷ 57 ∷ 51 ∷ 52 ∷ 53 ∷ 54 ∷ 59 ∷ 60 ∷ 61 ∷ 62 ∷ [])
    ∷ []

-- the cells after so many parts: the mask in cell 0, the points made so far, and zeros
unfoldable pub cells_after : ℕ → ℕ → ℕ → Record → List ℕ
cells_after zero a m ρ = m ∷ replicate 125 0
cells_after (suc n) a m ρ = laid (get_or parts n []) (record_points a m ρ) (cells_after n a m ρ)

-- the cells of the points in order
unfoldable pub cells_of_points : List ℕ
cells_of_points =
    2 ∷ 4 ∷ 6 ∷ 8 ∷ 10 ∷ 12 ∷ 14 ∷ 16 ∷ 18 ∷ 20 ∷ 22 ∷ 24 ∷ 26 ∷ 28 ∷ 30 ∷ 32
    ∷ 34 ∷ 36 ∷ 38 ∷ 40 ∷ 42 ∷ 44 ∷ 46 ∷ 48 ∷ 50 ∷ 52 ∷ 54 ∷ 56 ∷ 58 ∷ 60 ∷ 62 ∷ 64
    ∷ 66 ∷ 68 ∷ 70 ∷ 72 ∷ 74 ∷ 76 ∷ 78 ∷ 80 ∷ 82 ∷ 84 ∷ 86 ∷ 88 ∷ 90 ∷ 92 ∷ 94 ∷ 96
    ∷ 98 ∷ 100 ∷ 102 ∷ 104 ∷ 106 ∷ 108 ∷ 110 ∷ 112 ∷ 114 ∷ 116 ∷ 118 ∷ 120 ∷ 122 ∷ 124
    ∷ []

-- the first n points of a buffer, each from its cell
unfoldable pub recorded : ℕ → List ℕ → List ℕ → List ℕ
recorded zero cells points = points
recorded (suc n) cells points = set (recorded n cells points) n (get_or cells (get_or cells_of_points n 0) 0)
