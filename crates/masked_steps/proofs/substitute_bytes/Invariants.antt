-- `masked_steps::substitute_bytes` meets its contract: the loop's invariant: the bytes passed are substituted, the rest as they were.
use Rattle.masked_steps.proofs.Substitution.{Went}
use Rattle.masked_steps.proofs.substitute_bytes.Given as goal

abbrev pub invariant-loop-position : goal.invariant-loop-position
invariant-loop-position l = Went l.direction l.strip l.round l.initial.block l.initial.mask l.block l.mask l.position
