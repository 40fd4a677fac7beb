-- The active master: each of its calls follows the system's rule, and what it sends is the outstanding message; from what is known of one master. Assumes nothing.
use Prim.Native.Nat.{ℕ, zero, suc, ◌+◌, ◌-◌, ◌<◌, ◌≤◌}
use native.Mathlib.Omega.{arith}
use native.Mathlib.Numerals.{add-one}
use mathlib.Core.Path.{◌≡◌, refl, sym, ap, ◌∙◌}
use mathlib.Core.List.{List, [], ◌∷◌, ◌++◌}
use mathlib.Core.Bool.{Bool, true, false, cond, ◌&&◌, ◌||◌}
use lib.ListN.{length, drop, replicate, length-take}
use lib.Dec.{eqb, leb}
use borrow.Author.Tests.{eqb-false, leb-false, ne_eqb}
use Rattle.std.specs.Prelude.{Ok, Some}
use Rattle.refusal.specs.Answer.{first, passes}
use Rattle.refusal.proofs.First.{neither, true_false, passes_first, passes_both}
use Rattle.strip.specs.Strip.{own_checks}
use Rattle.pool_message.specs.Message as message
use Rattle.pool_message.specs.Message.{addition, read_of}
use Rattle.pool_message.specs.declared.Message.TheVariants.{Acknowledges}
use Rattle.pool_mirror.specs.Mirror as mirror
use Rattle.pool_mirror.specs.Mirror.{most, Said, Checks}
use Rattle.pool_state.specs.declared.State.{State}
use Rattle.pool_state.specs.State as roles
use Rattle.pool_master.specs.Master as master
use Rattle.pool_state.specs.State.{state_in, state_bytes, sent, gone, one_more, one_taken, with_role}
use Rattle.pool_master.specs.Master.{used_up, sending, counts}
use Rattle.pool_rooms.specs.Rooms.{room_at, padded, filled, cleared, strip_in}
use Rattle.pool_checks.specs.Checks.{add_checks, take_checks}
use Rattle.pool_fits.specs.Fits.{not_applied}
use Rattle.pool_sending.specs.Outstanding.{message_of}
use Rattle.pool_standby.specs.Calls.{apply_of}
use Rattle.pool_adding.specs.Adding.{add_of}
use Rattle.pool_taking.specs.Taking.{take_of, acknowledge_of, settle, handing, handing_none}
use Rattle.pool_pair.specs.Pair.{Cabinet, after_add, after_handing, after_apply, add, take_out, acknowledge, apply, sent_in, outstanding, pool_in, out_in, active_in, message_in, messages_in}
use Rattle.pool_pair.specs.Claims.{Messages, refused16}
use Rattle.pool_pair.proofs.Rooms.{Filled, first_cleared}
use Rattle.pool_pair.proofs.Bytes.{own_good, none_sent, addition_sent, addition_back, addition_strip, taking_sent, taking_back}
use Rattle.pool_pair.proofs.Master.{none_handed, some_handed, Sound, Kept, Follows, lent_follows, sound_back, kept_new, lent, lent_with, lent_out, sent_is, strip_here, same_room, same_none, pool_more, pool_less, pool_lowest, pool_cleared, room_left, some_held, gone_is, more_sound}

abbrev pub active_of : Cabinet → mirror.Active
active_of c = active_in (state_in c.state) c.rooms

-- roles 0 to 2
abbrev pub Active : Cabinet → Type 0
Active c = Kept 0 2 c

-- ---- 23 and 24
same_waiting : (m : State) (rooms : List ℕ) → master.waiting m ≡ mirror.waiting (out_in m rooms)
unfolding master.waiting out_in
same_waiting m rooms = go (eqb m.role roles.adding) (eqb m.role roles.taking) where
  go : (a b : Bool) → (a || b) ≡ mirror.waiting (cond a (mirror.adding (m.added, strip_in (room_at rooms (m.added - 1)))) (cond b (mirror.taking (m.taken, strip_in (room_at rooms (m.taken - 1)))) mirror.nothing))
  go true b = refl
  go false true = refl
  go false false = refl

same_used : (m : State) → m.role ≤ 2 → used_up m ≡ leb most (sent m)
unfolding used_up
same_used m h = rw (ne_eqb m.role roles.alone (λ e. omega arith)) refl

-- with nothing outstanding
idle : (m : State) → m.role ≤ 2 → master.waiting m ≡ false → m.role ≡ roles.active
unfolding master.waiting
idle m h e =
    let n = neither (eqb m.role roles.adding) _ e in
    omega (arith, eqb-false m.role roles.adding n.0, eqb-false m.role roles.taking n.1)

active_is : {p p' : mirror.Pool} {n n' : ℕ} {o o' : mirror.Out} → p ≡ p' → n ≡ n' → o ≡ o' → ◌≡◌ {A = mirror.Active} (record { pool = p; sent = n; out = o }) (record { pool = p'; sent = n'; out = o' })
active_is e f g = cc

strip_short : (rooms : List ℕ) (n : ℕ) → length (strip_in (room_at rooms n)) ≤ 676
unfolding strip_in room_at
strip_short rooms n = simp length-take (omega arith)

-- what is sent is outstanding
sends_it : (m : State) (kind : ℕ) → m.role ≡ roles.active → sending m kind ≡ kind
unfolding sending
sends_it m kind e = rw e refl

module _ (c : Cabinet) (v : Active c) where
  abbrev m : State
  m = state_in c.state

  abbrev a : mirror.Active
  a = active_of c

  abbrev waits : Checks → Checks
  waits rest = (23, mirror.waiting a.out) ∷ (24, leb most a.sent) ∷ rest

  add_checks_law : (s : List ℕ) → add_checks c.state (length c.rooms) s ≡ (6, false) ∷ waits (own_checks s ++ ((14, mirror.no_room a.pool) ∷ []))
  unfolding active_in master.is_standby master.waiting used_up Rattle.strip.specs.Strip.bad_framing Rattle.strip.specs.Strip.spent Rattle.strip.specs.Strip.unknown_version Rattle.strip.specs.Strip.wrong_record_bytes Rattle.strip.specs.Strip.bad_third master.no_room out_in mirror.no_room
  add_checks_law s =
      rw (lent v (omega arith), ne_eqb m.role roles.standby (λ e. omega (arith, v.sound.greatest)), same_waiting m c.rooms, same_used m v.sound.greatest, same_room m c.rooms) refl

  take_checks_law : take_checks c.state (length c.rooms) (length {A = ℕ} (replicate 4 0)) (length {A = ℕ} (replicate 676 0)) ≡ (6, false) ∷ waits ((15, mirror.none_held a.pool.held) ∷ [])
  unfolding active_in master.is_standby master.waiting used_up master.none_held out_in pool_in
  take_checks_law =
      rw (lent_out v (omega arith), ne_eqb m.role roles.standby (λ e. omega (arith, v.sound.greatest)), same_waiting m c.rooms, same_used m v.sound.greatest, same_none m c.rooms) refl

  -- what the checks let through is not waiting and not used up
  let_through : (rest : Checks) → passes (waits rest) ≡ true → (m.role ≡ roles.active) × (m.added + m.taken < most) × (passes rest ≡ true)
  unfolding active_in
  let_through rest e =
      let p23 = passes_first 23 (mirror.waiting a.out) _ e in
      let p24 = passes_first 24 (leb most a.sent) _ p23.1 in
      (idle m v.sound.greatest (same_waiting m c.rooms ∙ p23.0), leb-false most a.sent p24.0, p24.1)

  -- ---- adding
  pub add_follows : (s : List ℕ) → Follows Active active_of (add s c) (mirror.add own_checks s a)
  unfolding add after_add add_of mirror.add mirror.unless active_in pool_in out_in one_more
  add_follows s =
      lent_follows (λ x. ((after_add x).0, active_of (after_add x).1)) (λ x. Active (after_add x).1) _ (λ r. (mirror.refused r, a)) _ _ (λ r. (refl, v)) _ _ (add_checks_law s) new where
        new : passes (waits (own_checks s ++ ((14, mirror.no_room a.pool) ∷ []))) ≡ true
            → let c' : Cabinet = record { state = state_bytes (one_more m (sending m roles.adding)); rooms = filled c.rooms m.added s } in
            (◌≡◌ {A = Said × mirror.Active} (mirror.done, active_of c') (mirror.done, record { pool = mirror.put s a.pool; sent = suc a.sent; out = mirror.adding (suc a.pool.added, s) })) × Active c'
        new e =
            let t = let_through _ e in
            let p = passes_both (own_checks s) ((14, mirror.no_room a.pool) ∷ []) t.2 in
            let g = own_good s p.0 in
            let free = room_left m c.rooms (same_room m c.rooms ∙ (passes_first 14 (mirror.no_room a.pool) [] p.1).0) in
            let f : Filled m.taken m.added c.rooms = rw (gone_is m (λ x. omega arith)) at v.sound.filled in
            let space : m.added < m.taken + 64 = omega (arith, v.sound.counted) in
            let u : Sound 0 2 (one_more m roles.adding) (filled c.rooms m.added s) = more_sound m f 0 2 roles.adding (omega arith) (omega arith) (λ x. omega arith) s g.short free.0 free.1 (λ _. t.1) in
            let back : m.added + 1 - 1 ≡ m.added = omega arith in
            let same : active_in (one_more m roles.adding) (filled c.rooms m.added s) ≡ record { pool = mirror.put s a.pool; sent = suc a.sent; out = mirror.adding (suc m.added, s) } = active_is (pool_more m c.rooms roles.adding s g f (omega arith) v.sound.counted space) (omega arith) (rw (back, strip_here f s g space, add-one m.added) refl) in
            rw (sends_it m roles.adding t.0) (ap (λ (x : mirror.Active). (mirror.done, x)) (rw (sound_back u) same), kept_new u)

  -- ---- taking: the room is kept until the acknowledgement comes
  taking_sound : m.role ≡ roles.active → m.taken < m.added → m.added + m.taken < most → Sound 0 2 (one_taken m roles.taking) c.rooms
  unfolding one_taken gone
  taking_sound e some small =
      let back : m.taken + 1 - 1 ≡ m.taken = omega arith in
      record {
        least = omega arith;
        greatest = omega arith;
        counted = omega arith;
        adds = λ x. absurd (omega arith);
        takes = λ _. omega arith;
        small = v.sound.small;
        numbered = λ _. omega arith;
        filled = rw back (rw (gone_is m (λ x. omega arith)) at v.sound.filled);
      }

  pub take_follows : Follows Active active_of (take_out c) (mirror.take a)
  unfolding take_out after_handing take_of handing_none mirror.take mirror.unless active_in pool_in out_in one_taken
  take_follows =
      lent_follows (λ x. ((after_handing x).0, active_of (after_handing x).1)) (λ x. Active (after_handing x).1) _ (λ r. (mirror.refused r, a)) _ _ (λ r. (refl, v)) _ _ take_checks_law new where
        new : passes (waits ((15, mirror.none_held a.pool.held) ∷ [])) ≡ true
            → Follows Active active_of (after_handing (Ok tt, (state_bytes (one_taken m (sending m roles.taking)), cond (eqb m.role roles.alone) (handing c.rooms m.taken) (handing_none c.rooms (replicate 676 0)))))
            (mirror.done, record { pool = mirror.less a.pool; sent = suc a.sent; out = mirror.taking (mirror.lowest a.pool.held) })
        new e =
            let t = let_through _ e in
            let some = some_held m c.rooms (same_none m c.rooms ∙ (passes_first 15 (mirror.none_held a.pool.held) [] t.2).0) in
            let u = taking_sound t.0 some t.1 in
            let back : m.taken + 1 - 1 ≡ m.taken = omega arith in
            let same : active_in (one_taken m roles.taking) c.rooms ≡ record { pool = mirror.less a.pool; sent = suc a.sent; out = mirror.taking (mirror.lowest a.pool.held) } = active_is (pool_less m c.rooms roles.taking some) (omega arith) (rw (pool_lowest m c.rooms some, back, add-one m.taken) refl) in
            rw (sends_it m roles.taking t.0, t.0, none_handed) (ap (λ (x : mirror.Active). (mirror.done, x)) (rw (sound_back u) same), kept_new u)

  -- ---- an acknowledgement
  abbrev quiet : mirror.Active
  quiet = record { pool = a.pool; sent = a.sent; out = mirror.nothing }

  -- where nothing is outstanding none counts
  nothing_out : master.waiting m ≡ false → ◌≡◌ {A = Said × mirror.Active} (mirror.settled a.out, quiet) (mirror.done, a)
  unfolding active_in out_in
  nothing_out e = let z = idle m v.sound.greatest e in rw z refl

  -- once it is settled the room of a taking is free
  settled_sound : (rooms : List ℕ) → Filled m.taken m.added rooms → Sound 0 2 (with_role m roles.active) rooms
  unfolding with_role
  settled_sound rooms f = record {
    least = omega arith;
    greatest = omega arith;
    counted = v.sound.counted;
    adds = λ x. absurd (omega arith);
    takes = λ x. absurd (omega arith);
    small = v.sound.small;
    numbered = λ _. v.sound.numbered (λ x. omega (arith, v.sound.greatest));
    filled = rw (gone_is (with_role m roles.active) (λ x. omega arith)) f;
  }

  settles : (strip : List ℕ) → master.waiting m ≡ true → Follows Active active_of (after_handing (Ok tt, settle m c.rooms strip)) (mirror.settled a.out, quiet)
  unfolding master.waiting settle after_handing handing handing_none with_role gone active_in pool_in out_in
  settles strip w = go m.role refl v.sound.greatest where
    go : (r : ℕ) → m.role ≡ r → r ≤ 2 → Follows Active active_of (after_handing (Ok tt, settle m c.rooms strip)) (mirror.settled a.out, quiet)
    go zero e h = let z : false ≡ true = rw e at w in absurd (true_false (sym z))
    go (suc zero) e h =
        let u = settled_sound c.rooms (rw (gone_is m (λ x. omega arith)) at v.sound.filled) in
        rw (e, none_handed strip) (ap (λ (x : mirror.Active). (mirror.done, x)) (rw (sound_back u) refl), kept_new u)
    go (suc (suc zero)) e h =
        let f : Filled (m.taken - 1) m.added c.rooms = rw e at v.sound.filled in
        let some : 0 < m.taken = v.sound.takes e in
        let back : m.taken - 1 + 1 ≡ m.taken = omega arith in
        let u = settled_sound (cleared c.rooms (m.taken - 1)) (rw back at (first_cleared f (omega (arith, v.sound.counted)))) in
        let same : active_in (with_role m roles.active) (cleared c.rooms (m.taken - 1)) ≡ quiet = active_is (pool_cleared m c.rooms f (omega arith) v.sound.counted) refl refl in
        rw (e, back, some_handed m.taken (room_at c.rooms (m.taken - 1)) (omega (arith, v.sound.counted, v.sound.small)) some)
        (ap (λ (x : mirror.Active). (mirror.handed (m.taken, strip_in (room_at c.rooms (m.taken - 1))), x)) (rw (sound_back u) same), kept_new u)
    go (suc (suc (suc r))) e h = absurd (omega arith)

  pub acknowledge_follows : (bytes : List ℕ) (k : ℕ) → read_of bytes ≡ Some (Acknowledges k) → Follows Active active_of (acknowledge bytes c) (mirror.acknowledge k a)
  unfolding acknowledge acknowledge_of after_handing handing_none counts first mirror.acknowledge active_in
  acknowledge_follows bytes k e = rw (lent_out v (omega arith), e) (go (master.waiting m) (eqb k (sent m)) refl) where
    go : (w t : Bool) → master.waiting m ≡ w
        → Follows Active active_of (after_handing (Ok tt, cond (w && t) (settle m c.rooms (replicate 676 0)) (c.state, handing_none c.rooms (replicate 676 0)))) (cond t (mirror.settled a.out, quiet) (mirror.done, a))
    go true true e = settles (replicate 676 0) e
    go true false e = (rw (none_handed (replicate 676 0)) refl, v)
    go false true e = rw (nothing_out e, none_handed (replicate 676 0)) (refl, v)
    go false false e = (rw (none_handed (replicate 676 0)) refl, v)

  -- it applies no message
  pub apply_refused : (bytes : List ℕ) → apply bytes c ≡ refused16 c
  unfolding apply after_apply apply_of not_applied first
  apply_refused bytes = rw (lent_with v (omega arith) 8, ne_eqb m.role roles.standby (λ e. omega (arith, v.sound.greatest))) refl

  -- ---- what it sends
  pub outstanding_follows : (messages_in (outstanding c) ≡ mirror.outstanding a) × Messages (outstanding c)
  unfolding messages_in message_of mirror.outstanding active_in out_in
  outstanding_follows = rw (sent_is v (omega arith)) (go m.role refl v.sound.greatest) where
    small : sent m ≤ most
    small = v.sound.numbered (λ x. omega (arith, v.sound.greatest))

    go : (r : ℕ) → m.role ≡ r → r ≤ 2 → (messages_in (sent_in (padded 688 (message_of m c.rooms))) ≡ mirror.outstanding a) × Messages (sent_in (padded 688 (message_of m c.rooms)))
    go zero e h = rw (e, none_sent) (refl, tt)
    go (suc zero) e h =
        let s : List ℕ = strip_in (room_at c.rooms (m.added - 1)) in
        let short : length s ≤ 676 = strip_short c.rooms (m.added - 1) in
        let back : message_in (read_of (addition (sent m) m.added s)) (drop 12 (addition (sent m) m.added s)) ≡ mirror.adds (sent m) m.added s ∷ [] = rw (addition_back (sent m) small m.added v.sound.small s short, addition_strip (sent m) m.added s) refl in
        rw (e, addition_sent (sent m) small m.added v.sound.small s short) (rw back refl, ((mirror.adds (sent m) m.added s, (back, small)), tt))
    go (suc (suc zero)) e h =
        let few : m.taken ≤ most = omega arith in
        let back : message_in (read_of (message.taking (sent m) m.taken)) (drop 12 (message.taking (sent m) m.taken)) ≡ mirror.takes (sent m) m.taken ∷ [] = rw (taking_back (sent m) small m.taken few) refl in
        rw (e, taking_sent (sent m) small m.taken few) (rw back refl, ((mirror.takes (sent m) m.taken, (back, small)), tt))
    go (suc (suc (suc r))) e h = absurd (omega arith)
