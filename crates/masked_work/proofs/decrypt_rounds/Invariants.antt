-- `masked_work::decrypt_rounds` meets its contract: the loop's invariant: so many rounds are worked.
use Rattle.masked_rounds.specs.Rounds.{inv_worked}
use Rattle.masked_work.proofs.Rounds.{Past}
use Rattle.masked_work.proofs.decrypt_rounds.Given as goal

abbrev pub invariant-loop-done : goal.invariant-loop-done
invariant-loop-done l = Past (inv_worked l.round_keys l.strip l.rounds) l.rounds l.initial.block l.initial.mask l.block l.mask l.done
