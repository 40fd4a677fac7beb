-- `strip_checks::check_records` meets its contract: the loop's invariant: the records passed are not bad, so the rest decides.
use mathlib.Core.Path.{◌≡◌}
use Rattle.std.specs.Slice.Iter.{chunks_exact_size, chunks_exact_rest}
use Rattle.strip.specs.Strip.{bad_record, bad_third}
use Rattle.strip_checks.proofs.check_records.Given as goal

abbrev pub invariant-loop-record : goal.invariant-loop-record
invariant-loop-record l =
    (goal.iterator-loop-record).can_next l.record-iterator
    × ((goal.iterator-loop-record).is_finite l.record-iterator
    × ((chunks_exact_size l.record-iterator ≡ 3) × (bad_record l.strip ≡ bad_third (chunks_exact_rest l.record-iterator))))
