-- What adding may rely on where no check applies, and what it leaves. Assumes nothing.
use Prim.Native.Nat.{ℕ, ◌+◌, ◌-◌, ◌<◌, ◌≤◌}
use mathlib.Core.Path.{◌≡◌, refl, sym, subst, ◌∙◌}
use mathlib.Core.List.{List, [], ◌∷◌}
use mathlib.Core.Bool.{true, ◌||◌}
use lib.ListN.{length}
use lib.Dec.{leb}
use borrow.Author.Tests.{leb-false}
use Rattle.refusal.specs.Answer.{passes}
use Rattle.refusal.proofs.First.{neither, passes_first, passes_both}
use Rattle.strip.specs.Strip.{own_checks}
use Rattle.strip.proofs.Good.{own_short}
use Rattle.pool_state.specs.declared.State.{State}
use Rattle.pool_state.specs.State.{state_in, state_bytes, one_more}
use Rattle.pool_master.specs.Master.{waiting, used_up, no_room, is_standby, sending}
use Rattle.pool_rooms.specs.Rooms.{rooms_size, filled}
use Rattle.pool_lent.specs.Lent.{not_lent}
use Rattle.pool_checks.specs.Checks.{add_checks}
use Rattle.pool_lent.proofs.Lent.{lent_is}
use Rattle.pool_adding.specs.Adding.{added}

pub added_so : (m : State) (role : ℕ) (rooms s st' rooms' : List ℕ) → st' ≡ state_bytes (record { role = role; added = m.added + 1; taken = m.taken }) → rooms' ≡ filled rooms m.added s → (st', rooms') ≡ added m role rooms s
unfolding one_more
added_so m role rooms s st' rooms' f g = rw (f, g) refl

module _ (st rooms s : List ℕ) (p : passes (add_checks st (length rooms) s) ≡ true) (m : State) (h : m ≡ state_in st) where
  pub add_may : ((length st ≡ 9) × (length rooms ≡ rooms_size)) × ((length s ≤ 676) × (m.added < 4294967295))
  unfolding no_room
  add_may =
      let p6 = passes_first 6 (not_lent st (length rooms) || is_standby (state_in st)) _ p in
      let p23 = passes_first 23 (waiting (state_in st)) _ p6.1 in
      let p24 = passes_first 24 (used_up (state_in st)) _ p23.1 in
      let own = passes_both (own_checks s) ((14, no_room (state_in st)) ∷ []) p24.1 in
      let room = neither (leb 64 ((state_in st).added - (state_in st).taken)) (leb 4294967295 (state_in st).added) (passes_first 14 (no_room (state_in st)) [] own.1).0 in
      let lent = lent_is st (length rooms) (neither (not_lent st (length rooms)) (is_standby (state_in st)) p6.0).0 in
      let free : (state_in st).added < 4294967295 = leb-false 4294967295 (state_in st).added room.1 in
      ((lent.nine, lent.sized), (own_short s own.0, subst (λ (m : State). m.added < 4294967295) (sym h) free))

  pub add_done : (role : ℕ) (new : List ℕ × List ℕ) → role ≡ sending m 1 → new ≡ added m role rooms s → new ≡ added (state_in st) (sending (state_in st) 1) rooms s
  add_done role new q r = r ∙ rw (q, h) refl
