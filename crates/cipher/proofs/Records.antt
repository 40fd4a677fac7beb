-- Every record of a strip that passed the check is good, and so is what is read where there is none. Assumes nothing.
use Prim.Native.Nat.{ℕ, ◌+◌, ◌*◌, ◌≤◌, ◌<◌}
use native.Mathlib.Omega.{arith}
use mathlib.Core.Path.{◌≡◌, ◌∙◌}
use mathlib.Core.List.{List}
use mathlib.Core.Logic.{⊎_elim}
use lib.ListN.{length, get_or, drop}
use lib.Seq.{get_or-take, get_or-drop}
use Rattle.fips197.proofs.Below.{below_or_not}
use Rattle.tower.specs.Claims.{Good}
use Rattle.strip.specs.Strip.{record_part}
use Rattle.strip.proofs.Good.{Fit, past}
use Rattle.masked_steps.specs.Steps.{record_at}

module _ (s : List ℕ) (size : ℕ) (fit : Fit s size) (bytes : (j : ℕ) → get_or s j 0 < 256) where
  byte_of : (i j : ℕ) → 4 + 3 * i + 3 ≤ length s → j < 3 → get_or (record_part s i) j 0 ≡ get_or s (4 + 3 * i + j) 0
  byte_of i j g h = rw (fit.there i g) (get_or-take 3 (drop (4 + 3 * i) s) j 0 h ∙ get_or-drop (4 + 3 * i) s j 0)

  -- a byte each, and the third at most 3
  there_good : (i : ℕ) → 4 + 3 * i + 3 ≤ length s → Good (record_at s i)
  unfolding record_at
  there_good i g = record {
    qt = rw (byte_of i 0 g (omega arith)) (bytes (4 + 3 * i + 0));
    s = rw (byte_of i 1 g (omega arith)) (bytes (4 + 3 * i + 1));
    r = rw (byte_of i 2 g (omega arith)) (fit.small i g);
  }

  past_good : (i : ℕ) → length s < 4 + 3 * i + 3 → Good (record_at s i)
  unfolding record_at
  past_good i g = record { qt = rw (past s i g) (omega arith); s = rw (past s i g) (omega arith); r = rw (past s i g) (omega arith) }

  pub all_good : (i : ℕ) → Good (record_at s i)
  all_good i = ⊎_elim (λ g. past_good i g) (λ g. there_good i g) (below_or_not (length s) (4 + 3 * i + 3))
