-- What is claimed of the bare S-box. It is proved in proofs/Claims.antt.
use Rattle.std.specs.Prelude.{◌≡◌, ℕ}
use Rattle.fips197.specs.Field.{inverse}
use Rattle.tower.specs.Tower.{to_tower, from_tower, byte_inverse}

-- the tower's inverse, brought back, is the standard's; what stands above the eight bits of a byte is read by neither
abbrev pub InverseIsField : Type 0
InverseIsField = (a : ℕ) → from_tower (byte_inverse (to_tower a)) ≡ inverse a
