-- What a call may rely on when it is lent what it must be. Assumes nothing.
use Prim.Native.Nat.{ℕ, ◌+◌, ◌≤◌, ◌<◌}
use native.Mathlib.Omega.{arith}
use mathlib.Core.Path.{◌≡◌, refl, sym, ◌∙◌}
use mathlib.Core.List.{List}
use mathlib.Core.Bool.{true, false, ◌&&◌}
use lib.ListN.{length}
use lib.Dec.{eqb, ltb}
use borrow.Author.Tests.{ltb-false, eqb-false, eqb-true, not-false, eq-eqb, ne_eqb}
use Rattle.refusal.specs.Answer.{above, is_not}
use Rattle.refusal.proofs.First.{neither}
use Rattle.pool_state.specs.declared.State.{State}
use Rattle.pool_state.specs.State.{state_in, gone, never_sent, sent_too_much, impossible, no_state}
use Rattle.pool_rooms.specs.Rooms.{rooms_size}
use Rattle.pool_lent.specs.Lent.{not_lent, not_lent_with, not_lent_out}

-- what a lent state and lent rooms are
pub record Lent (st : List ℕ) (rooms : ℕ) : Type 0 where
  pub nine : length st ≡ 9
  pub sized : rooms ≡ rooms_size
  -- a master that sends has a sum of 32 bits
  pub counted : ((state_in st).role ≡ 4 → ⊥) → (state_in st).added + (state_in st).taken ≤ 4294967295
  -- and one whose addition is outstanding has added
  pub begun : (state_in st).role ≡ 1 → 0 < (state_in st).added

pub lent_is : (st : List ℕ) (rooms : ℕ) → not_lent st rooms ≡ false → Lent st rooms
unfolding not_lent no_state impossible sent_too_much never_sent
lent_is st rooms e =
    let m : State = state_in st in
    let n = neither (no_state st) (is_not rooms_size rooms) e in
    let o = neither (is_not 9 (length st)) (impossible m) n.0 in
    let p = neither (above 4 m.role) _ o.1 in
    let q = neither (ltb m.added m.taken) _ p.1 in
    let r = neither (above (gone m + 64) m.added) _ q.1 in
    let s = neither (never_sent m) (sent_too_much m) r.1 in
    let t = (neither (eqb m.role 1 && eqb m.added m.taken) _ s.0).0 in
    record {
      nine = eqb-true (length st) 9 (not-false _ o.0);
      sized = eqb-true rooms rooms_size (not-false _ n.1);
      counted = λ h. ltb-false 4294967295 (m.added + m.taken) (let u : is_not 4 m.role ≡ true = rw (ne_eqb m.role 4 h) refl in sym (rw u refl) ∙ s.1);
      begun = λ h. let other : m.added ≡ m.taken → ⊥ = eqb-false m.added m.taken (sym (rw (eq-eqb m.role 1 h) refl) ∙ t) in omega (arith, other, ltb-false m.added m.taken q.0);
    }

pub lent_with : (size : ℕ) (st : List ℕ) (rooms part : ℕ) → not_lent_with size st rooms part ≡ false → Lent st rooms × (part ≡ size)
unfolding not_lent_with
lent_with size st rooms part e = let n = neither (not_lent st rooms) (is_not size part) e in (lent_is st rooms n.0, eqb-true part size (not-false _ n.1))

pub record LentOut (st : List ℕ) (rooms number strip : ℕ) : Type 0 where
  pub master : Lent st rooms
  pub four : number ≡ 4
  pub room : strip ≡ 676

pub lent_out_is : (st : List ℕ) (rooms number strip : ℕ) → not_lent_out st rooms number strip ≡ false → LentOut st rooms number strip
unfolding not_lent_out
lent_out_is st rooms number strip e =
    let n = neither (not_lent_with 4 st rooms number) (is_not 676 strip) e in
    let l = lent_with 4 st rooms number n.0 in
    record { master = l.0; four = l.1; room = eqb-true strip 676 (not-false _ n.1) }
