-- Which numbers are those of a direction. Assumes nothing.
use Prim.Native.Nat.{ℕ, zero, suc, ◌≤◌, ◌<◌}
use native.Mathlib.Omega.{arith}
use mathlib.Core.Path.{◌≡◌, refl}
use mathlib.Core.Bool.{true, false}
use borrow.Author.Tests.{ne_eqb}
use Rattle.entry_checks.specs.Checks.{no_direction}

pub direction_good : (n : ℕ) → n < 2 → false ≡ no_direction n
direction_good zero h = refl
direction_good (suc zero) h = refl
direction_good (suc (suc n)) h = absurd (omega arith)

pub direction_bad : (n : ℕ) → 2 ≤ n → true ≡ no_direction n
direction_bad n h = rw (ne_eqb n 0 (λ e. omega arith), ne_eqb n 1 (λ e. omega arith)) refl
