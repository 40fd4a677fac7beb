-- `aes::add_key` meets its contract: the loop's invariant: the bytes passed are sums, the rest as they were.
use mathlib.Core.Path.{◌≡◌}
use Rattle.fips197.specs.Cipher.{◌⊞◌}
use Rattle.aes.proofs.Front.{front}
use Rattle.aes.proofs.add_key.Given as goal

abbrev pub invariant-loop-i : goal.invariant-loop-i
invariant-loop-i l = l.part ≡ front (l.initial.part ⊞ l.key) l.initial.part l.i
