-- The cut, and a standby that goes on alone: each of its calls follows the system's rule, and before the cut it neither adds nor takes; from what is known of one master. Assumes nothing.
use Prim.{tt}
use Prim.Native.Nat.{ℕ, suc, ◌+◌}
use native.Mathlib.Omega.{arith}
use native.Mathlib.Numerals.{add-one}
use mathlib.Core.Path.{◌≡◌, refl, sym, ap, ap₂, ◌∙◌}
use mathlib.Core.List.{List, [], ◌∷◌, ◌++◌}
use mathlib.Core.Bool.{true, false, cond}
use lib.ListN.{length, replicate}
use lib.Dec.{eqb}
use borrow.Author.Tests.{le-ltb, eq-eqb}
use Rattle.refusal.specs.Refusal.{refusal}
use Rattle.std.specs.Prelude.{Ok}
use Rattle.refusal.specs.Answer.{Answer, first, passes}
use Rattle.strip.specs.Strip.{own_checks}
use Rattle.pool_mirror.specs.Mirror as mirror
use Rattle.pool_mirror.specs.Mirror.{Strips, Said}
use Rattle.refusal.proofs.First.{passes_first, passes_both}
use Rattle.pool_state.specs.declared.State.{State}
use Rattle.pool_state.specs.State as roles
use Rattle.pool_master.specs.Master as master
use Rattle.pool_state.specs.State.{state_in, state_bytes, sent, one_more, one_taken, with_role}
use Rattle.pool_master.specs.Master.{used_up, sending}
use Rattle.pool_rooms.specs.Rooms.{room_at, filled, cleared, strip_in}
use Rattle.pool_checks.specs.Checks.{add_checks, take_checks}
use Rattle.pool_standby.specs.Calls.{go_alone_of}
use Rattle.pool_adding.specs.Adding.{add_of}
use Rattle.pool_taking.specs.Taking.{take_of, handing, handing_none}
use Rattle.pool_pair.specs.Pair.{Cabinet, after_add, after_handing, after_alone, add, take_out, go_alone, pool_in, standby_in}
use Rattle.pool_pair.proofs.Rooms.{Filled}
use Rattle.pool_pair.proofs.Bytes.{own_good}
use Rattle.pool_pair.proofs.Master.{some_handed, Sound, Follows, lent_follows, sound_back, kept_new, a_state, lent, lent_out, same_room, same_none, pool_more, pool_less, pool_lowest, pool_cleared, room_left, some_held, gone_is, more_sound, less_sound}
use Rattle.pool_pair.proofs.Standby.{standby_of, Standby}

abbrev pub pool_of : Cabinet → mirror.Pool
pool_of c = pool_in (state_in c.state) c.rooms

-- alone, 23 and 24 fall away, and nothing is sent
not_waiting : (m : State) → m.role ≡ roles.alone → master.waiting m ≡ false
unfolding master.waiting
not_waiting m e = rw e refl

not_used : (m : State) → m.role ≡ roles.alone → used_up m ≡ false
unfolding used_up
not_used m e = rw e refl

stays : (m : State) (kind : ℕ) → m.role ≡ roles.alone → sending m kind ≡ roles.alone
unfolding sending
stays m kind e = rw e refl

more_sent : (m : State) (role : ℕ) → sent (one_more m role) ≡ suc (sent m)
unfolding one_more
more_sent m role = omega arith

less_sent : (m : State) (role : ℕ) → sent (one_taken m role) ≡ suc (sent m)
unfolding one_taken
less_sent m role = omega arith

-- l and o are the strips that it has added and handed out by itself
module _ (c : Cabinet) (l o : Strips) (v : Standby (length l + length o) c) where
  abbrev n : ℕ
  n = length l + length o

  abbrev m : State
  m = state_in c.state

  abbrev b : mirror.Standby
  b = standby_of n c

  filled_now : Filled m.taken m.added c.rooms
  filled_now = rw (gone_is m (λ e. omega (arith, v.kept.sound.least))) at v.kept.sound.filled

  -- ---- the cut
  cut_sound : Sound 3 4 (with_role m roles.alone) c.rooms
  unfolding with_role
  cut_sound = record {
    least = omega arith;
    greatest = omega arith;
    counted = v.kept.sound.counted;
    adds = λ e. absurd (omega arith);
    takes = λ e. absurd (omega arith);
    small = v.kept.sound.small;
    numbered = λ d. absurd (d refl);
    filled = rw (gone_is (with_role m roles.alone) (λ e. omega arith)) filled_now;
  }

  pub cut_follows : Follows (Standby n) (standby_of n) (go_alone c) (mirror.done, mirror.go_alone b)
  unfolding go_alone go_alone_of after_alone first mirror.go_alone standby_in with_role pool_in
  cut_follows =
      rw (a_state v.kept (omega arith), le-ltb m.role roles.standby v.kept.sound.least)
      (rw (sound_back cut_sound) refl, record { kept = kept_new cut_sound; alone = λ e. absurd (never e) }) where
        never : (state_in (state_bytes (with_role m roles.alone))).role ≡ roles.standby → ⊥
        never e = let z : (with_role m roles.alone).role ≡ roles.standby = rw (sound_back cut_sound) at e in omega arith

  -- ---- before it
  pub waits_add : (s : List ℕ) → m.role ≡ roles.standby → add s c ≡ (mirror.refused (refusal 6), c)
  unfolding add add_of after_add first master.is_standby
  waits_add s e = rw (lent v.kept (omega arith), e) refl

  pub waits_take : m.role ≡ roles.standby → take_out c ≡ (mirror.refused (refusal 6), c)
  unfolding take_out take_of after_handing first master.is_standby
  waits_take e = rw (lent_out v.kept (omega arith), e) refl

  -- ---- after it: what is told, what it then holds, and that it has applied no more
  pub record Lone (by_itself : ℕ) (new : Cabinet) : Type 0 where
    pub still : Standby by_itself new
    pub applied : (standby_of by_itself new).applied ≡ b.applied
    pub alone : (standby_of by_itself new).alone ≡ b.alone

  pub lone_is : (by_itself : ℕ) (new : Cabinet) → Lone by_itself new → standby_of by_itself new ≡ record { pool = pool_of new; applied = b.applied; alone = b.alone }
  unfolding standby_in
  lone_is by_itself new u = rw (← u.applied, ← u.alone) refl

  unchanged : Lone n c
  unchanged = record { still = v; applied = refl; alone = refl }

  module _ (here : m.role ≡ roles.alone) where
    changed : {m' : State} {rooms' : List ℕ} (by_itself : ℕ) → Sound 3 4 m' rooms' → m'.role ≡ roles.alone → sent m' ≡ suc (sent m) → by_itself ≡ suc n
        → Lone by_itself (record { state = state_bytes m'; rooms = rooms' })
    unfolding standby_in
    changed {m'} {rooms'} by_itself u role one more = record {
      still = record { kept = kept_new u; alone = rw (sound_back u) (λ e. absurd (omega arith)) };
      applied = rw (sound_back u) (omega arith);
      alone = rw (sound_back u) (ap (λ (y : ℕ). eqb y roles.alone) (role ∙ sym here));
    }

    add_checks_law : (s : List ℕ) → add_checks c.state (length c.rooms) s ≡ (6, false) ∷ (23, false) ∷ (24, false) ∷ own_checks s ++ ((14, mirror.no_room (pool_of c)) ∷ [])
    unfolding master.is_standby
    add_checks_law s = rw (lent v.kept (omega arith), not_waiting m here, not_used m here, same_room m c.rooms, here) refl

    take_checks_law : take_checks c.state (length c.rooms) (length {A = ℕ} (replicate 4 0)) (length {A = ℕ} (replicate 676 0)) ≡ (6, false) ∷ (23, false) ∷ (24, false) ∷ (15, mirror.none_held (pool_of c).held) ∷ []
    unfolding master.is_standby
    take_checks_law = rw (lent_out v.kept (omega arith), not_waiting m here, not_used m here, same_none m c.rooms, here) refl

    abbrev Added : Answer (Unit {0}) × (List ℕ × List ℕ) → Type 0
    Added y = (x : ℕ × List ℕ) → Lone (length (mirror.note_added (after_add y).0 x l) + length o) (after_add y).1

    pub add_alone_follows : (s : List ℕ) → (◌≡◌ {A = Said × mirror.Pool} ((add s c).0, pool_of (add s c).1) (mirror.add_alone own_checks s (pool_of c))) × Added (add_of c.state c.rooms s)
    unfolding add add_of after_add first passes one_more mirror.add_alone mirror.unless
    add_alone_follows s =
        lent_follows (λ y. ((after_add y).0, pool_of (after_add y).1)) Added _ (λ r. (mirror.refused r, pool_of c)) _ _ (λ r. (refl, λ x. unchanged)) _ _ (add_checks_law s) new where
          new : passes (own_checks s ++ ((14, mirror.no_room (pool_of c)) ∷ [])) ≡ true
              → let y : Answer (Unit {0}) × (List ℕ × List ℕ) = (Ok tt, (state_bytes (one_more m (sending m roles.adding)), filled c.rooms m.added s)) in
              (◌≡◌ {A = Said × mirror.Pool} ((after_add y).0, pool_of (after_add y).1) (mirror.done, mirror.put s (pool_of c))) × Added y
          new e =
              let p = passes_both (own_checks s) ((14, mirror.no_room (pool_of c)) ∷ []) e in
              let g = own_good s p.0 in
              let free = room_left m c.rooms (same_room m c.rooms ∙ (passes_first 14 (mirror.no_room (pool_of c)) [] p.1).0) in
              let u : Sound 3 4 (one_more m roles.alone) (filled c.rooms m.added s) = more_sound m filled_now 3 4 roles.alone (omega arith) (omega arith) (λ x. omega arith) s g.short free.0 free.1 (λ d. absurd (d refl)) in
              let same = pool_more m c.rooms roles.alone s g filled_now (omega arith) v.kept.sound.counted (omega (arith, v.kept.sound.counted)) in
              rw (stays m roles.adding here) (ap (λ (q : mirror.Pool). (mirror.done, q)) (rw (sound_back u) same), λ x. changed (suc (length l) + length o) u refl (more_sent m roles.alone) (omega arith))

    abbrev Taken : Answer (Unit {0}) × (List ℕ × (List ℕ × (List ℕ × List ℕ))) → Type 0
    Taken y = Lone (length l + length (mirror.note_handed (after_handing y).0 o)) (after_handing y).1

    pub take_alone_follows : (◌≡◌ {A = Said × mirror.Pool} ((take_out c).0, pool_of (take_out c).1) (mirror.take_alone (pool_of c))) × Taken (take_of c.state c.rooms (replicate 4 0) (replicate 676 0))
    unfolding take_out take_of after_handing handing first passes one_taken mirror.take_alone mirror.unless
    take_alone_follows =
        lent_follows (λ y. ((after_handing y).0, pool_of (after_handing y).1)) Taken _ (λ r. (mirror.refused r, pool_of c)) _ _ (λ r. (refl, unchanged)) _ _ take_checks_law (new (replicate 676 0)) where
          new : (strip : List ℕ) → passes ((15, mirror.none_held (pool_of c).held) ∷ []) ≡ true
              → let y : Answer (Unit {0}) × (List ℕ × (List ℕ × (List ℕ × List ℕ))) =
              (Ok tt, (state_bytes (one_taken m (sending m roles.taking)), cond (eqb m.role roles.alone) (handing c.rooms m.taken) (handing_none c.rooms strip))) in
              (◌≡◌ {A = Said × mirror.Pool} ((after_handing y).0, pool_of (after_handing y).1) (mirror.handed (mirror.lowest (pool_of c).held), mirror.less (pool_of c))) × Taken y
          new strip e =
              let some = some_held m c.rooms (same_none m c.rooms ∙ (passes_first 15 (mirror.none_held (pool_of c).held) [] e).0) in
              let u : Sound 3 4 (one_taken m roles.alone) (cleared c.rooms m.taken) = less_sound m filled_now 3 4 roles.alone (omega arith) (omega arith) (λ x. omega arith) (λ x. omega arith) some v.kept.sound.small (λ d. absurd (d refl)) in
              let same = pool_cleared (one_taken m roles.alone) c.rooms filled_now (omega arith) (omega arith) ∙ pool_less m c.rooms roles.alone some in
              let lowest : mirror.handed (m.taken + 1, strip_in (room_at c.rooms m.taken)) ≡ mirror.handed (mirror.lowest (pool_of c).held) = rw (pool_lowest m c.rooms some, add-one m.taken) refl in
              rw (stays m roles.taking here, eq-eqb m.role roles.alone here, some_handed (m.taken + 1) (room_at c.rooms m.taken) (omega (arith, v.kept.sound.small)) (omega arith))
              (ap₂ (λ (q : Said) (y : mirror.Pool). (q, y)) lowest (rw (sound_back u) same), changed (length l + suc (length o)) u refl (less_sent m roles.alone) (omega arith))
