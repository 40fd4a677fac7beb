-- Rule 2.5, the counts: how many of the 2^26 settings of the masks give a point a value.
use Rattle.std.specs.Prelude.{ℕ, ◌/◌, ◌%◌, ◌^◌, Bool, true, false, cond, List, [], ◌∷◌, eqb, leb}
use Rattle.fips197.specs.Field.{◌⊕◌}
use Rattle.counting.specs.Counting.{count, share}
use Rattle.points.specs.Points.{point}

-- A setting is a number below 2^26: M (8 bits), Q (4), r (2), T (4), S (8), from the top.
unfoldable pub the_m : ℕ → ℕ
the_m w = w / 2 ^ 18

unfoldable pub the_q : ℕ → ℕ
the_q w = w / 2 ^ 14 % 2 ^ 4

unfoldable pub the_r : ℕ → ℕ
the_r w = w / 2 ^ 12 % 2 ^ 2

unfoldable pub the_t : ℕ → ℕ
the_t w = w / 2 ^ 8 % 2 ^ 4

unfoldable pub the_s : ℕ → ℕ
the_s w = w % 2 ^ 8

-- how many settings give point n the value v, where the byte A enters under the mask M
unfoldable pub counted : ℕ → ℕ → ℕ → ℕ
counted n A v = count (2 ^ 26) (λ w. eqb (point n (A ⊕ the_m w) (the_m w) (the_q w) (the_r w) (the_t w) (the_s w)) v)

-- A row of the table: its points, from .. to; its values, below 16 in nibbles and below 4 in pairs; how often zero and each other value.
pub record Row : Type 0 where
  pub points : List (ℕ × ℕ)
  pub values : ℕ
  pub zeros : ℕ
  pub others : ℕ

-- nibble products, pair products, other nibbles, other pairs
abbrev pub table : List Row
table =
    record { points = (5, 8) ∷ (47, 50) ∷ (55, 58) ∷ []; values = 16; zeros = 8126464; others = 3932160 }
    ∷ record { points = (19, 22) ∷ (31, 34) ∷ (39, 42) ∷ []; values = 4; zeros = 29360128; others = 12582912 }
    ∷ record { points = (1, 4) ∷ (9, 14) ∷ (51, 54) ∷ (59, 62) ∷ []; values = 16; zeros = 4194304; others = 4194304 }
    ∷ record { points = (15, 18) ∷ (23, 30) ∷ (35, 38) ∷ (43, 46) ∷ []; values = 4; zeros = 16777216; others = 16777216 }
    ∷ []

abbrev pub within : ℕ → List (ℕ × ℕ) → Bool
within n [] = false
within n ((from, to) ∷ more) = cond (leb from n) (cond (leb n to) true (within n more)) (within n more)

-- the table's number for point n and the value v
abbrev pub listed : List Row → ℕ → ℕ → ℕ
listed [] n v = 0
listed (row ∷ more) n v = cond (within n row.points) (share row.values row.zeros row.others v) (listed more n v)
