-- What each step of the standby may rely on where no check applies, and what it leaves. Assumes nothing.
use Prim.Native.Nat.{ℕ, suc, ◌<◌, ◌≤◌}
use native.Mathlib.Omega.{arith}
use mathlib.Core.Path.{◌≡◌, refl, sym, ap, ◌∙◌}
use mathlib.Core.List.{List, [], ◌∷◌}
use mathlib.Core.Bool.{true, false, not, cond, ◌||◌}
use lib.ListN.{length, drop}
use lib.Dec.{ltb, leb}
use borrow.Author.Tests.{ltb-false, le-leb, lt-leb, eq-eqb, eqb-true, not-false}
use Rattle.refusal.specs.Answer.{is_not, passes}
use Rattle.std.specs.Prelude.{Option, None}
use Rattle.refusal.proofs.First.{neither, passes_first, true_false}
use Rattle.pool_numbers.specs.Numbers.{number_bytes}
use Rattle.pool_message.specs.Message.{front_bytes, acknowledgement, read_of, sequence}
use Rattle.pool_message.specs.declared.Message.{Message}
use Rattle.pool_state.specs.declared.State.{State}
use Rattle.pool_state.specs.State.{state_in, state_bytes, sent, no_state, impossible, with_role}
use Rattle.pool_rooms.specs.Rooms.{rooms_size}
use Rattle.pool_lent.specs.Lent.{not_lent_with}
use Rattle.pool_checks.specs.Checks.{apply_checks, go_alone_checks}
use Rattle.pool_fits.specs.Fits.{fits, is_message, not_applied}
use Rattle.pool_standby.specs.Calls.{applied, answered}
use Rattle.pool_lent.proofs.Lent.{lent_with}

pub acknowledgement_length : (n : ℕ) → length (acknowledgement n) ≡ 8
unfolding acknowledgement front_bytes number_bytes
acknowledgement_length n = refl

module _ (st rooms b ack : List ℕ) (p : passes (apply_checks st (length rooms) b (length ack)) ≡ true) where
  q6 : (not_lent_with 8 st (length rooms) (length ack) ≡ false) × (passes ((16, not_applied (state_in st) (read_of b) (drop 12 b)) ∷ []) ≡ true)
  q6 = passes_first 6 _ _ p

  pub apply_eight : length ack ≡ 8
  apply_eight = (lent_with 8 st (length rooms) (length ack) q6.0).1

  -- what is no message was refused
  pub apply_none : {A : Type 0} → None ≡ read_of b → A
  unfolding not_applied
  apply_none e =
      let n : not_applied (state_in st) None (drop 12 b) ≡ false = ap (λ (x : Option Message). not_applied (state_in st) x (drop 12 b)) e ∙ (passes_first 16 (not_applied (state_in st) (read_of b) (drop 12 b)) [] q6.1).0 in
      absurd (true_false (neither (is_not 3 (state_in st).role) _ n).1)

  module _ (m : State) (h : m ≡ state_in st) (x : Option Message) (i : x ≡ read_of b) (n : ℕ) (s : n ≡ sequence x) (y : sent m < n) where
    -- it is the next, and fits
    fitting : fits m x (drop 12 b) ≡ true
    unfolding not_applied
    fitting =
        let c : not_applied m x (drop 12 b) ≡ false = rw (h, i) (passes_first 16 (not_applied (state_in st) (read_of b) (drop 12 b)) [] q6.1).0 in
        let a = neither (is_not 3 m.role) _ c in
        let d = neither (not (is_message x)) _ a.1 in
        let t = neither (ltb (suc (sent m)) (sequence x)) _ d.1 in
        let u : sequence x ≡ suc (sent m) = omega (arith, s, ltb-false (suc (sent m)) (sequence x) t.0) in
        not-false (fits m x (drop 12 b)) (sym (rw (eq-eqb (sequence x) (suc (sent m)) u) refl) ∙ t.1)

    pub apply_may : n < 4294967296 → ((x ≡ read_of b) × (fits m x (drop 12 b) ≡ true)) × (((length st ≡ 9) × (length rooms ≡ rooms_size)) × (sent m < 4294967295))
    apply_may z = let l = (lent_with 8 st (length rooms) (length ack) q6.0).0 in ((i, fitting), ((l.nine, l.sized), omega arith))

module _ (st rooms b : List ℕ) (m : State) (h : m ≡ state_in st) (x : Option Message) (i : x ≡ read_of b) (n : ℕ) (s : n ≡ sequence x) (ack' : List ℕ) (w : ack' ≡ acknowledgement n) where
  applies : (new : List ℕ × List ℕ) → new ≡ cond (leb n (sent m)) (st, rooms) (applied m x (drop 12 b) rooms) → (new.0, (new.1, ack')) ≡ answered st rooms (read_of b) (drop 12 b)
  applies new z = rw (z, w, s, h, i) refl

  pub apply_old : n ≤ sent m → (st, (rooms, ack')) ≡ answered st rooms (read_of b) (drop 12 b)
  apply_old y = applies (st, rooms) (rw (le-leb n (sent m) y) refl)

  pub apply_new : (st' rooms' : List ℕ) → sent m < n → (st', rooms') ≡ applied m x (drop 12 b) rooms → (st', (rooms', ack')) ≡ answered st rooms (read_of b) (drop 12 b)
  apply_new st' rooms' y z = applies (st', rooms') (rw (lt-leb n (sent m) y) z)

-- ---- going on alone
pub alone_nine : (st : List ℕ) → passes (go_alone_checks st) ≡ true → length st ≡ 9
unfolding no_state
alone_nine st p =
    let n = neither (no_state st) (ltb (state_in st).role 3) (passes_first 6 (no_state st || ltb (state_in st).role 3) [] p).0 in
    eqb-true (length st) 9 (not-false _ (neither (is_not 9 (length st)) (impossible (state_in st)) n.0).0)

pub alone_done : (st st' : List ℕ) (m : State) → m ≡ state_in st → st' ≡ state_bytes (record { role = 4; added = m.added; taken = m.taken }) → st' ≡ state_bytes (with_role (state_in st) 4)
unfolding with_role
alone_done st st' m h w = rw (w, h) refl
