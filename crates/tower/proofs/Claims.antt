-- Every claim of specs/Claims.antt, proved: from the theorems of the files beside this one. Assumes nothing.
use mathlib.Core.Path.{refl}
use Rattle.fips197.specs.Field.{field}
use Rattle.tower.specs.Claims as claims
use Rattle.tower.proofs.Level.{pair_level, nibble_level, byte_level}
use Rattle.tower.proofs.Basis.{changes_inverse, tower_is_field}

pub pair_laws : claims.PairLaws
pair_laws = pair_level

pub nibble_laws : claims.NibbleLaws
nibble_laws = nibble_level

pub byte_laws : claims.ByteLaws
byte_laws = byte_level

pub elements : claims.Elements
unfolding field
elements = refl

pub changes : claims.ChangesInverse
changes = changes_inverse

pub field_of_the_tower : claims.TowerIsField
field_of_the_tower = tower_is_field
