-- The examples, by computation. Assumes nothing.
use mathlib.Core.Path.{refl}
use Rattle.fips197.specs.Field.{field}
use Rattle.fips197.specs.Cipher.{fips}
use Rattle.tower.specs.Tower.{tower}
use Rattle.points.specs.Points.{masked}
use Rattle.sbox.specs.Sbox.{ways}
use Rattle.examples.specs.Examples as specs

pub examples : specs.Examples
unfolding ways masked tower fips field
examples = refl
