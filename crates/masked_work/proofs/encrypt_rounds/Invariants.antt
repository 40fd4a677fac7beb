-- `masked_work::encrypt_rounds` meets its contract: the loop's invariant: so many rounds are worked.
use Rattle.masked_rounds.specs.Rounds.{worked}
use Rattle.masked_work.proofs.Rounds.{Past}
use Rattle.masked_work.proofs.encrypt_rounds.Given as goal

abbrev pub invariant-loop-round : goal.invariant-loop-round
invariant-loop-round l = Past (worked l.round_keys l.strip l.rounds) l.rounds l.initial.block l.initial.mask l.block l.mask l.round
