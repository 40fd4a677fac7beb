-- What a block call knows of its parts when every check has passed. Assumes nothing.
use Prim.Native.Nat.{ℕ, ◌-◌, ◌*◌, ◌/◌, ◌≤◌, ◌<◌}
use native.Mathlib.Omega.{arith}
use mathlib.Core.Path.{◌≡◌, refl}
use mathlib.Core.List.{List, [], ◌∷◌}
use mathlib.Core.Bool.{false, ◌||◌}
use borrow.Author.Tests.{eqb-true, not-false}
use Rattle.std.specs.Prelude.{Ok, Err}
use Rattle.refusal.specs.Answer.{Answer, first, is_not, none_of}
use Rattle.refusal.proofs.First.{found, passes_first, call_passes, neither}
use Rattle.strip.specs.Strip.{block_checks}
use Rattle.strip.proofs.Good.{Fit, good}
use Rattle.block_checks.specs.Checks.{key_size_in, checks}

-- round keys of 176, 208 or 240 bytes
pub record Sizes (w : ℕ) : Type 0 where
  pub least : 176 ≤ w
  pub most : w ≤ 240
  pub whole : 16 * (w / 16) ≡ w

sizes_of : (w n : ℕ) → w ≡ n → 176 ≤ n → n ≤ 240 → 16 * (n / 16) ≡ n → Sizes w
sizes_of w n e l m h = record { least = omega arith; most = omega arith; whole = rw e h }

pub sizes : (w : ℕ) → none_of (176 ∷ 208 ∷ 240 ∷ []) w ≡ false → Sizes w
sizes w e =
    found 176 208 240 w e
    (λ h. sizes_of w 176 h (omega arith) (omega arith) refl)
    (λ h. sizes_of w 208 h (omega arith) (omega arith) refl)
    (λ h. sizes_of w 240 h (omega arith) (omega arith) refl)

-- the steps from their number of bytes to the key size stay within their types
module _ (w : ℕ) (e : none_of (176 ∷ 208 ∷ 240 ∷ []) w ≡ false) where
  z : Sizes w
  z = sizes w e

  pub keys_there : 1 ≤ w / 16
  keys_there = omega (arith, z.least)

  pub rounds_there : 6 ≤ w / 16 - 1
  rounds_there = omega (arith, z.least)

  pub size_fits : 4 * (w / 16 - 1 - 6) < 256
  size_fits = omega (arith, z.least, z.most)

-- every check passed
pub record Admitted (d m w : ℕ) (s : List ℕ) : Type 0 where
  pub block : d ≡ 16
  pub mask : m ≡ 16
  pub keys : Sizes w
  pub strip : Fit s (key_size_in w)

pub admitted : (d m w : ℕ) (s : List ℕ) (v : Answer (Unit {0})) → v ≡ first (checks d m w s) Err (Ok tt) → (u : Unit {0}) → v ≡ Ok u → Admitted d m w s
admitted d m w s v e u f =
    let p6 = passes_first 6 (is_not 16 d || is_not 16 m) _ (call_passes (checks d m w s) v e u f) in
    let p5 = passes_first 5 (none_of (176 ∷ 208 ∷ 240 ∷ []) w) (block_checks s (key_size_in w)) p6.1 in
    let both = neither (is_not 16 d) (is_not 16 m) p6.0 in
    record {
      block = eqb-true d 16 (not-false _ both.0);
      mask = eqb-true m 16 (not-false _ both.1);
      keys = sizes w p5.0;
      strip = good s (key_size_in w) p5.1;
    }
