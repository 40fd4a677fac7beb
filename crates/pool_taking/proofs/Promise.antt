-- What each step may rely on where no check applies, and what it leaves. Assumes nothing.
use Prim.Native.Nat.{ℕ, ◌+◌, ◌-◌, ◌<◌}
use native.Mathlib.Omega.{arith}
use mathlib.Core.Path.{◌≡◌, refl, sym, subst}
use mathlib.Core.List.{List, [], ◌∷◌}
use mathlib.Core.Bool.{Bool, true, false, not, cond, ◌||◌}
use lib.ListN.{length}
use lib.Dec.{eqb}
use borrow.Author.Tests.{leb-false}
use Rattle.refusal.specs.Answer.{passes}
use Rattle.refusal.proofs.First.{neither, passes_first}
use Rattle.pool_numbers.specs.Numbers.{number_bytes}
use Rattle.pool_message.specs.Message.{read_of, sequence}
use Rattle.std.specs.Prelude.{Option}
use Rattle.pool_message.specs.declared.Message.{Message}
use Rattle.pool_state.specs.declared.State.{State}
use Rattle.pool_state.specs.State.{state_in, state_bytes, one_taken, with_role}
use Rattle.pool_master.specs.Master.{waiting, used_up, none_held, is_standby, sending, counts}
use Rattle.pool_rooms.specs.Rooms.{rooms_size, room_at, cleared}
use Rattle.pool_lent.specs.Lent.{not_lent_out}
use Rattle.pool_checks.specs.Checks.{take_checks, is_acknowledgement, acknowledge_checks}
use Rattle.pool_taking.specs.Taking.{handing, handing_none, taken, settle, acknowledged}
use Rattle.pool_lent.proofs.Lent.{LentOut, lent_out_is}

-- ---- handing out
pub handed_out : (rooms : List ℕ) (n : ℕ) (rooms' number strip' : List ℕ) → rooms' ≡ cleared rooms n → number ≡ number_bytes (n + 1) → strip' ≡ room_at rooms n → (rooms', (number, strip')) ≡ handing rooms n
unfolding handing
handed_out rooms n rooms' number strip' e f g = rw (e, f, g) refl

-- ---- taking
module _ (st rooms number strip : List ℕ) (p : passes (take_checks st (length rooms) (length number) (length strip)) ≡ true) (m : State) (h : m ≡ state_in st) where
  p6 : ((not_lent_out st (length rooms) (length number) (length strip) || is_standby (state_in st)) ≡ false) × (passes ((23, waiting (state_in st)) ∷ (24, used_up (state_in st)) ∷ (15, none_held (state_in st)) ∷ []) ≡ true)
  p6 = passes_first 6 _ _ p

  lent : LentOut st (length rooms) (length number) (length strip)
  lent = lent_out_is st (length rooms) (length number) (length strip) (neither (not_lent_out st (length rooms) (length number) (length strip)) (is_standby (state_in st)) p6.0).0

  pub take_nine : length st ≡ 9
  take_nine = lent.master.nine

  pub take_one : m.taken < m.added
  unfolding none_held
  take_one =
      let p23 = passes_first 23 (waiting (state_in st)) _ p6.1 in
      let p24 = passes_first 24 (used_up (state_in st)) _ p23.1 in
      let some : (state_in st).taken < (state_in st).added = leb-false (state_in st).added (state_in st).taken (passes_first 15 (none_held (state_in st)) [] p24.1).0 in
      subst (λ (m : State). m.taken < m.added) (sym h) some

  pub take_may : m.added < 4294967296 → ((length rooms ≡ rooms_size) × (length number ≡ 4)) × ((length strip ≡ 676) × (m.taken < 4294967295))
  take_may b = ((lent.master.sized, lent.four), (lent.room, omega (arith, take_one)))

  pub take_done : (role : ℕ) (st' : List ℕ) (alone : Bool) (lent' : List ℕ × (List ℕ × List ℕ)) → role ≡ sending m 2 → st' ≡ state_bytes (record { role = role; added = m.added; taken = m.taken + 1 })
      → alone ≡ eqb m.role 4 → lent' ≡ cond alone (handing rooms m.taken) (handing_none rooms strip) → (st', lent') ≡ taken (state_in st) rooms strip
  unfolding one_taken
  take_done role st' alone lent' q t a u = rw (t, q, u, a, h) refl

-- ---- an acknowledgement
pub settled : (m : State) (rooms strip st' : List ℕ) (n : ℕ) (due : Bool) (lent : List ℕ × (List ℕ × List ℕ)) → st' ≡ state_bytes (record { role = 0; added = m.added; taken = m.taken }) → n ≡ m.taken - 1
    → due ≡ eqb m.role 2 → lent ≡ cond due (handing rooms n) (handing_none rooms strip) → (st', lent) ≡ settle m rooms strip
unfolding settle with_role
settled m rooms strip st' n due lent f g d q = rw (f, q, g, d) refl

module _ (st rooms b number strip : List ℕ) (p : passes (acknowledge_checks st (length rooms) b (length number) (length strip)) ≡ true) where
  pub acknowledge_may : ((length st ≡ 9) × (length rooms ≡ rooms_size)) × ((length number ≡ 4) × (length strip ≡ 676))
  acknowledge_may =
      let l = lent_out_is st (length rooms) (length number) (length strip) (passes_first 6 (not_lent_out st (length rooms) (length number) (length strip)) ((16, not (is_acknowledgement (read_of b))) ∷ []) p).0 in
      ((l.master.nine, l.master.sized), (l.four, l.room))

module _ (st rooms b strip : List ℕ) (m : State) (i : m ≡ state_in st) (x : Option Message) (g : x ≡ read_of b) (n : ℕ) (l : n ≡ sequence x) (t : Bool) (c : t ≡ counts m n) where
  acknowledges : (new : List ℕ × (List ℕ × (List ℕ × List ℕ))) → new ≡ cond t (settle m rooms strip) (st, handing_none rooms strip) → new ≡ acknowledged st rooms (sequence (read_of b)) strip
  acknowledges new z = rw (z, c, l, g, i) refl

  pub acknowledge_counts : (new : List ℕ × (List ℕ × (List ℕ × List ℕ))) → t ≡ true → new ≡ settle m rooms strip → new ≡ acknowledged st rooms (sequence (read_of b)) strip
  acknowledge_counts new y z = acknowledges new (rw y z)

  pub acknowledge_other : (number : List ℕ) → t ≡ false → number ≡ number_bytes 0 → (st, (rooms, (number, strip))) ≡ acknowledged st rooms (sequence (read_of b)) strip
  unfolding handing_none
  acknowledge_other number y z = acknowledges (st, (rooms, (number, strip))) (rw (y, z) refl)
