-- What is claimed of the masked inversion and its points. Each claim is proved in proofs/Claims.antt.
use Rattle.std.specs.Prelude.{◌≡◌, ℕ, ◌<◌, ◌≤◌}
use Rattle.fips197.specs.Field.{◌⊕◌}
use Rattle.tower.specs.Tower.{byte_inverse}
use Rattle.tower.specs.Claims.{Good}
use Rattle.tower.specs.declared.Record.{Record}
use Rattle.points.specs.Points.{masked_inverse}
use Rattle.points.specs.Counts.{counted, listed, table}

-- the masked inversion: its answer plus S is the inverse of masked byte plus mask
abbrev pub InversionIsRight : Type 0
InversionIsRight = (a m : ℕ) (ρ : Record) → a < 256 → m < 256 → Good ρ → masked_inverse a m ρ ⊕ ρ.s ≡ byte_inverse (a ⊕ m)

-- Demand 3: for every byte A, every point from 1 to 62 and every value v, the count over all 67,108,864 settings is the table's.
abbrev pub Demand3 : Type 0
Demand3 = (A n v : ℕ) → A < 256 → 1 ≤ n → n ≤ 62 → counted n A v ≡ listed table n v
