-- What the standby makes of a message that fits. Assumes nothing.
use Prim.Native.Nat.{ℕ, ◌+◌, ◌-◌, ◌≤◌}
use mathlib.Core.Path.{◌≡◌, refl, sym, subst, ap, ◌∙◌}
use mathlib.Core.List.{List}
use mathlib.Core.Bool.{true}
use lib.ListN.{length, take, drop}
use Rattle.std.specs.Prelude.{Some}
use Rattle.refusal.specs.Answer.{passes}
use Rattle.refusal.proofs.First.{both_true, true_false}
use Rattle.strip.specs.Strip.{own_checks}
use Rattle.strip.proofs.Good.{own_short}
use Rattle.pool_message.specs.declared.Message.{Message}
use Rattle.pool_message.specs.declared.Message.TheVariants.{Adds, Takes, Acknowledges}
use Rattle.pool_state.specs.declared.State.{State}
use Rattle.pool_state.specs.State.{state_bytes, one_more, one_taken}
use Rattle.pool_rooms.specs.Rooms.{filled, cleared}
use Rattle.pool_fits.specs.Fits.{fits}
use Rattle.pool_standby.specs.Calls.{applied}
use Rattle.pool_fits.proofs.Fits.{whole_strip}

module _ (m : State) (x : Message) (b : List ℕ) where
  -- the strip of an addition that fits goes into a room
  pub fits_room : (k n : ℕ) → fits m (Some x) (drop 12 b) ≡ true → x ≡ Adds k n → length (take (length b - 12) (drop 12 b)) ≤ 676
  unfolding fits
  fits_room k n e f =
      let g : fits m (Some (Adds k n)) (drop 12 b) ≡ true = subst (λ (y : Message). fits m (Some y) (drop 12 b) ≡ true) f e in
      rw (whole_strip b) (own_short (drop 12 b) (both_true (passes (own_checks (drop 12 b))) _ g).0)

  pub applied_adds : (k n : ℕ) (rooms st' rooms' : List ℕ) → x ≡ Adds k n → st' ≡ state_bytes (record { role = 3; added = m.added + 1; taken = m.taken }) → rooms' ≡ filled rooms m.added (take (length b - 12) (drop 12 b)) → (st', rooms') ≡ applied m (Some x) (drop 12 b) rooms
  unfolding applied one_more
  applied_adds k n rooms st' rooms' f p q = rw (f, p, q, whole_strip b) refl

  pub applied_takes : (k n : ℕ) (rooms st' rooms' : List ℕ) → x ≡ Takes k n → st' ≡ state_bytes (record { role = 3; added = m.added; taken = m.taken + 1 }) → rooms' ≡ cleared rooms m.taken → (st', rooms') ≡ applied m (Some x) (drop 12 b) rooms
  unfolding applied one_taken
  applied_takes k n rooms st' rooms' f p q = rw (f, p, q) refl

  -- nothing else fits
  pub fits_no_acknowledgement : (k : ℕ) {A : Type 0} → fits m (Some x) (drop 12 b) ≡ true → x ≡ Acknowledges k → A
  unfolding fits
  fits_no_acknowledgement k e f = absurd (true_false (sym e ∙ ap (λ (y : Message). fits m (Some y) (drop 12 b)) f))
