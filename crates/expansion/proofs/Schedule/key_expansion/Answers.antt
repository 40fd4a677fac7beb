-- `expansion::Schedule::key_expansion` meets its contract: from the key copied and the words behind it. Assumes nothing.
use Prim.Native.Nat.{ℕ}
use mathlib.Core.Path.{ap}
use mathlib.Core.List.{List, ◌++◌}
use lib.ListN.{length, drop}
use Rattle.expansion.proofs.Lengths.{key_expanded}
use Rattle.expansion.proofs.Schedule.key_expansion.Goals as goal

pub returns : goal.returns
returns c = key_expanded c.args.self.nk c.args.nr _ _ _ _ c.requires.1.0 (ap (λ (t : List ℕ). t ++ drop (length c.args.key.now) c.args.w.now) c.copy_from_slice.ensures.after) c.expand_words.ensures
