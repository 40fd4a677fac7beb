-- The claims on runs of two cabinets, from what every event keeps and from the safety of the system. Assumes nothing.
use Prim.Native.Nat.{ℕ}
use native.Mathlib.Omega.{arith}
use mathlib.Core.Path.{◌≡◌, sym, subst, ap}
use mathlib.Core.Bool.{true, false}
use borrow.Author.Tests.{eqb-true, eqb-false}
use Rattle.strip.specs.Strip.{own_checks}
use Rattle.pool_mirror.specs.Mirror.{Said, World, paper}
use Rattle.pool_mirror.specs.Claims.{Safe}
use Rattle.pool_mirror.proofs.Claims.{safety}
use Rattle.pool_state.specs.State as roles
use Rattle.pool_state.specs.State.{state_in}
use Rattle.pool_pair.specs.Pair.{Cabinets, apply, ran, standby_in, stands_for}
use Rattle.pool_pair.specs.Claims as claims
use Rattle.pool_pair.specs.Claims.{rules, Answers}
use Rattle.pool_pair.proofs.Bytes.{acknowledgement_back}
use Rattle.pool_pair.proofs.Master.{a_state, acknowledge_none}
use Rattle.pool_pair.proofs.Active.{add_follows, take_follows, acknowledge_follows, apply_refused, outstanding_follows}
use Rattle.pool_pair.proofs.Standby.{apply_follows, apply_none, sends_nothing, acknowledge_idle}
use Rattle.pool_pair.proofs.Alone.{cut_follows, waits_add, waits_take, add_alone_follows, take_alone_follows}
use Rattle.pool_pair.proofs.Run.{by_itself, Runs, runs}

pub lifted : claims.Lifted
lifted es = (runs es).0

-- what a call says, from all that it says and leaves
says : {S : Type 0} {a b : Said × S} → a ≡ b → a.0 ≡ b.0
says e = ap (λ t. t.0) e

module _ (c : Cabinets) (v : Runs c) where
  abbrev w : World
  w = stands_for c

  abbrev role : ℕ
  role = (state_in c.standby.state).role

  alone_role : w.standby.alone ≡ true → role ≡ roles.alone
  unfolding stands_for standby_in
  alone_role e = eqb-true role roles.alone e

  waiting_role : w.standby.alone ≡ false → role ≡ roles.standby
  unfolding stands_for standby_in
  waiting_role e = omega (arith, eqb-false role roles.alone e, v.far.kept.sound.least, v.far.kept.sound.greatest)

  answers : Answers c w
  unfolding paper stands_for standby_in apply
  answers = record {
    on_add_law = λ s. says (add_follows c.active v.near s).0;
    on_take_law = says (take_follows c.active v.near).0;
    on_acknowledgement_law = λ k h. says (acknowledge_follows c.active v.near _ k (acknowledgement_back k h)).0;
    on_no_acknowledgement = acknowledge_none v.near (omega arith);
    on_outstanding = (outstanding_follows c.active v.near).0;
    on_message_law = λ bytes m h. says (apply_follows c.standby (by_itself c) v.far bytes m h).0;
    on_no_message = apply_none c.standby (by_itself c) v.far;
    link = v.link;
    back = v.back;
    on_cut = says (cut_follows c.standby c.entered_alone c.offered v.far).0;
    on_add_alone_law = λ e s. says (add_alone_follows c.standby c.entered_alone c.offered v.far (alone_role e) s).0;
    on_take_alone_law = λ e. says (take_alone_follows c.standby c.entered_alone c.offered v.far (alone_role e)).0;
    no_add = λ e s. says (waits_add c.standby c.entered_alone c.offered v.far s (waiting_role e));
    no_take = λ e. says (waits_take c.standby c.entered_alone c.offered v.far (waiting_role e));
    nothing_outstanding = sends_nothing c.standby (by_itself c) v.far;
    on_acknowledgement_there = λ k h. acknowledge_idle c.standby (by_itself c) v.far _ k (acknowledgement_back k h);
    on_no_acknowledgement_there = acknowledge_none v.far.kept (omega arith);
    on_message_here = apply_refused c.active v.near;
  }

pub answered : claims.Answered
answered es = subst (Answers (ran es)) (runs es).0 (answers (ran es) (runs es).1)

pub free_rooms : claims.FreeRooms
free_rooms es = (λ n h i. (runs es).1.near.sound.filled.free n h (omega (arith, i)), λ n h i. (runs es).1.far.kept.sound.filled.free n h (omega (arith, i)))

pub safely : claims.Safely
safely es = subst (Safe rules) (sym (lifted es)) (safety own_checks es)

pub unrefused : claims.Unrefused
unrefused es = (a_state (runs es).1.near (omega arith), a_state (runs es).1.far.kept (omega arith))
