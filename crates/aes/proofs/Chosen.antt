-- Which case of `keyed` the tests of the code have shown. Assumes nothing.
use mathlib.Core.Path.{◌≡◌, refl, ap, ◌∙◌}
use mathlib.Core.List.{List}
use Prim.Native.Nat.{ℕ, ◌+◌, ◌-◌, ◌*◌, ◌/◌, ◌≤◌, ◌<◌}
use native.Mathlib.Nat.{add-sub_cancel_left}
use native.Mathlib.Omega.{arith}
use lib.ListN.{length, take, drop}
use borrow.Author.Tests.{le-leb, lt-leb}
use Rattle.fips197.specs.Cipher.{◌⊞◌, round_key, add_round_key}
use Rattle.refusal.proofs.Part.{on_length_law, off_length}
use Rattle.aes.specs.Steps.{keyed}

module _ (s w x : List ℕ) (round : ℕ) where
  pub no_state_law : (length s ≡ 16 → ⊥) → x ≡ s → x ≡ keyed s w round
  unfolding keyed
  no_state_law h e = off_length _ s x h e

  pub no_key : length s ≡ 16 → length w / 16 ≤ round → x ≡ s → x ≡ keyed s w round
  unfolding keyed
  no_key h k e = on_length_law _ s x h (rw (lt-leb (16 * round + 16) (length w) (omega arith)) e)

  pub key_there : length s ≡ 16 → 16 * round + 16 ≤ length w → x ≡ add_round_key s w round → x ≡ keyed s w round
  unfolding keyed
  key_there h k e = on_length_law _ s x h (rw (le-leb (16 * round + 16) (length w) k) e)

  -- the code takes the round's key as sixteen bytes from its place on
  key_taken : take (16 * round + 16 - 16 * round) (drop (16 * round) w) ≡ round_key w round
  unfolding round_key
  key_taken = rw add-sub_cancel_left refl

  pub key_added : length s ≡ 16 → round < length w / 16 → x ≡ s ⊞ take (16 * round + 16 - 16 * round) (drop (16 * round) w) → x ≡ keyed s w round
  unfolding add_round_key
  key_added h k e = key_there h (omega arith) (e ∙ ap (λ (t : List ℕ). s ⊞ t) key_taken)
