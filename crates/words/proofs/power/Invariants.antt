-- `words::power` meets its contract: the loop's invariant: so far, x to the power of the turns made.
use mathlib.Core.Path.{◌≡◌}
use Rattle.fips197.specs.Cipher.{power}
use Rattle.words.proofs.power.Given as goal

abbrev pub invariant-loop : goal.invariant-loop
invariant-loop l = l.b ≡ power l.counter
