-- One master, whichever it is: when its state and rooms are sound, that no call refuses them then, and what an addition and a taking make of the pool they stand for; from the rooms and from what is read back. Assumes nothing.
use Prim.Native.Nat.{ℕ, zero, suc, ◌+◌, ◌-◌, ◌<◌, ◌≤◌}
use native.Mathlib.Omega.{arith}
use native.Mathlib.Numerals.{add-one}
use mathlib.Core.Path.{◌≡◌, refl, ap, ◌∙◌, sym}
use mathlib.Core.List.{List, [], ◌∷◌, ◌++◌}
use mathlib.Core.Bool.{Bool, true, false, ◌&&◌}
use lib.ListN.{length, replicate}
use lib.Dec.{eqb, leb}
use borrow.Author.Tests.{eqb-true, eqb-false, leb-false, le-ltb, le-leb, lt-leb, ne_eqb, not-true, eq-eqb}
use Rattle.std.specs.Prelude.{Option, Some, None}
use Rattle.refusal.specs.declared.Refusal.{Refusal}
use Rattle.refusal.specs.Answer.{first, is_not, above, passes}
use Rattle.refusal.proofs.First.{clash, neither}
use Rattle.pool_numbers.specs.Numbers.{number_bytes, number_at}
use Rattle.pool_message.specs.Message.{read_of}
use Rattle.pool_message.specs.declared.Message.{Message}
use Rattle.pool_message.specs.declared.Message.TheVariants.{Adds, Takes, Acknowledges}
use Rattle.pool_mirror.specs.Mirror as mirror
use Rattle.pool_mirror.specs.Mirror.{most, Said, Checks}
use Rattle.pool_state.specs.declared.State.{State}
use Rattle.pool_state.specs.State as roles
use Rattle.pool_master.specs.Master as master
use Rattle.pool_state.specs.State.{state_in, state_bytes, sent, gone, never_sent, sent_too_much, impossible, no_state, one_more, one_taken}
use Rattle.pool_rooms.specs.Rooms.{room_at, padded, filled, cleared, strip_in}
use Rattle.pool_lent.specs.Lent.{not_lent, not_lent_with, not_lent_out}
use Rattle.pool_checks.specs.Checks.{is_acknowledgement}
use Rattle.pool_sending.specs.Outstanding.{message_of, outstanding_of}
use Rattle.pool_taking.specs.Taking.{acknowledge_of}
use Rattle.pool_pair.specs.Pair.{Cabinet, handed_in, after_handing, acknowledge, sent_in, outstanding, held_in, pool_in, number_in}
use Rattle.pool_pair.specs.Claims.{refused16}
use Rattle.pool_pair.proofs.Rooms.{Filled, next_filled, first_cleared, filled_here, filled_held, cleared_held, held_length, held_more}
use Rattle.pool_state.proofs.Laws.{state_length, gone_other}
use Rattle.pool_pair.proofs.Bytes.{number_back, GoodForm, strip_back, state_back}

-- ---- a sound state, of a role from low to high: an outstanding message was sent, numbers fit their four bytes, and the rooms that strips have left are zero
pub record Sound (low high : ℕ) (m : State) (rooms : List ℕ) : Type 0 where
  pub least : low ≤ m.role
  pub greatest : m.role ≤ high
  pub counted : m.taken ≤ m.added
  pub adds : m.role ≡ roles.adding → m.taken < m.added
  pub takes : m.role ≡ roles.taking → 0 < m.taken
  pub small : m.added ≤ most
  pub numbered : (m.role ≡ roles.alone → ⊥) → m.added + m.taken ≤ most
  pub filled : Filled (gone m) m.added rooms

pub record Kept (low high : ℕ) (c : Cabinet) : Type 0 where
  pub nine : length c.state ≡ 9
  pub sound : Sound low high (state_in c.state) c.rooms

-- not both, where the one rules out the other
not_both : (a b : Bool) → (a ≡ true → b ≡ false) → (a && b) ≡ false
not_both true b f = f refl
not_both false b f = refl

module _ {low high : ℕ} {m : State} {rooms : List ℕ} (v : Sound low high m rooms) where
  never : never_sent m ≡ false
  unfolding never_sent
  never =
      rw (not_both (eqb m.role roles.adding) (eqb m.added m.taken) (λ t. ne_eqb m.added m.taken (λ e. omega (arith, v.adds (eqb-true m.role roles.adding t)))))
      (not_both (eqb m.role roles.taking) (eqb m.taken 0) (λ t. ne_eqb m.taken 0 (λ e. omega (arith, v.takes (eqb-true m.role roles.taking t)))))

  not_too_much : sent_too_much m ≡ false
  unfolding sent_too_much
  not_too_much = not_both (is_not roles.alone m.role) (above most (sent m)) (λ t. le-ltb most (sent m) (v.numbered (eqb-false m.role roles.alone (not-true _ t))))

  possible : high ≤ roles.alone → impossible m ≡ false
  unfolding impossible
  possible h =
      simp (le-ltb roles.alone m.role (omega (arith, v.greatest)), le-ltb m.added m.taken v.counted, le-ltb (gone m + 64) m.added v.filled.fits, never, not_too_much)

  pub sound_back : state_in (state_bytes m) ≡ m
  sound_back = state_back m v.small (omega (arith, v.counted, v.small))

  pub kept_new : Kept low high (record { state = state_bytes m; rooms = rooms })
  kept_new = record { nine = state_length m; sound = rw sound_back v }

-- the calls take the state and the rooms as lent
module _ {low high : ℕ} {c : Cabinet} (v : Kept low high c) (h : high ≤ roles.alone) where
  pub a_state : no_state c.state ≡ false
  unfolding no_state
  a_state = simp (v.nine, possible v.sound h)

  pub lent : not_lent c.state (length c.rooms) ≡ false
  unfolding not_lent
  lent = simp (a_state, v.sound.filled.size)

  pub lent_with : (size : ℕ) → not_lent_with size c.state (length c.rooms) size ≡ false
  unfolding not_lent_with
  lent_with size = simp (lent, eq-eqb size size refl)

  pub lent_out : not_lent_out c.state (length c.rooms) (length {A = ℕ} (replicate 4 0)) (length {A = ℕ} (replicate 676 0)) ≡ false
  unfolding not_lent_out
  lent_out = simp (lent_with 4)

  -- bytes that are no acknowledgement get 16, whichever master they come to
  pub acknowledge_none : (bytes : List ℕ) → number_in (read_of bytes) ≡ [] → acknowledge bytes c ≡ refused16 c
  unfolding acknowledge acknowledge_of after_handing first
  acknowledge_none bytes e = rw (lent_out, none (read_of bytes) e) refl where
    none : (r : Option Message) → number_in r ≡ [] → is_acknowledgement r ≡ false
    none (Some (Adds k n)) e = refl
    none (Some (Takes k n)) e = refl
    none (Some (Acknowledges k)) e = clash cc
    none None e = refl

  -- what is to be sent
  pub sent_is : outstanding c ≡ sent_in (padded 688 (message_of (state_in c.state) c.rooms))
  unfolding outstanding outstanding_of first
  sent_is = rw (lent_with 688) refl

-- the strip that was put into a room is the one in it
pub strip_here : {from added : ℕ} {rooms : List ℕ} (v : Filled from added rooms) (s : List ℕ) → GoodForm s → added < from + 64 → strip_in (room_at (filled rooms added s) added) ≡ s
strip_here v s g space = ap strip_in (filled_here v s g.short space) ∙ strip_back s g

-- ---- refusals: 14 and 15 are the system's
module _ (m : State) (rooms : List ℕ) where
  pub same_room : master.no_room m ≡ mirror.no_room (pool_in m rooms)
  unfolding master.no_room mirror.no_room pool_in
  same_room = rw (held_length rooms m.taken (m.added - m.taken)) refl

  pub same_none : master.none_held m ≡ mirror.none_held (pool_in m rooms).held
  unfolding master.none_held pool_in held_in
  same_none = go (m.added - m.taken) refl where
    go : (count : ℕ) → m.added - m.taken ≡ count → leb m.added m.taken ≡ mirror.none_held (held_in rooms m.taken count)
    go zero e = le-leb m.added m.taken (omega arith)
    go (suc count) e = lt-leb m.added m.taken (omega arith)

  -- ---- the pool after an addition and after a taking
  pub pool_more : (role : ℕ) (s : List ℕ) → GoodForm s → {from : ℕ} → Filled from m.added rooms → from ≤ m.taken → m.taken ≤ m.added → m.added < from + 64
      → pool_in (one_more m role) (filled rooms m.added s) ≡ mirror.put s (pool_in m rooms)
  unfolding pool_in one_more mirror.put
  pool_more role s g v p q space =
      let rooms' : List ℕ = filled rooms m.added s in
      let count : m.added + 1 - m.taken ≡ suc (m.added - m.taken) = omega arith in
      let last : m.taken + (m.added - m.taken) ≡ m.added = omega arith in
      let here : strip_in (room_at rooms' m.added) ≡ s = strip_here v s g space in
      let before : held_in rooms' m.taken (m.added - m.taken) ≡ held_in rooms m.taken (m.added - m.taken) = filled_held v s g.short space m.taken (m.added - m.taken) p (omega arith) in
      let all : held_in rooms' m.taken (m.added + 1 - m.taken) ≡ held_in rooms m.taken (m.added - m.taken) ++ ((suc m.added, s) ∷ []) = rw (count, held_more rooms' m.taken (m.added - m.taken), before, last, here) refl in
      rw (all, add-one m.added) refl

  pub pool_less : (role : ℕ) → m.taken < m.added → pool_in (one_taken m role) rooms ≡ mirror.less (pool_in m rooms)
  unfolding pool_in one_taken mirror.less held_in
  pool_less role h =
      let count : m.added - m.taken ≡ suc (m.added - (m.taken + 1)) = omega arith in
      rw (count, add-one m.taken) refl

  pub pool_lowest : m.taken < m.added → mirror.lowest (pool_in m rooms).held ≡ (suc m.taken, strip_in (room_at rooms m.taken))
  unfolding pool_in held_in
  pool_lowest h =
      let count : m.added - m.taken ≡ suc (m.added - (m.taken + 1)) = omega arith in
      rw count refl

  -- a zeroed room was none of those held
  pub pool_cleared : {from : ℕ} → Filled from m.added rooms → from < m.taken → m.taken ≤ m.added → pool_in m (cleared rooms from) ≡ pool_in m rooms
  unfolding pool_in
  pool_cleared v h q = rw (cleared_held v m.taken (m.added - m.taken) h (omega arith)) refl

  -- what 14 and 15 let through
  pub room_left : master.no_room m ≡ false → (m.added - m.taken < 64) × (m.added < most)
  unfolding master.no_room
  room_left e =
      let n = neither (leb 64 (m.added - m.taken)) _ e in
      (leb-false 64 (m.added - m.taken) n.0, leb-false most m.added n.1)

  pub some_held : master.none_held m ≡ false → m.taken < m.added
  unfolding master.none_held
  some_held e = leb-false m.added m.taken e

-- ---- soundness after an addition, and after a taking that leaves its room at once
pub gone_is : (m : State) → (m.role ≡ roles.taking → ⊥) → gone m ≡ m.taken
gone_is m h = sym (gone_other m h)

module _ (m : State) {rooms : List ℕ} (v : Filled m.taken m.added rooms) (low high role : ℕ) (least : low ≤ role) (greatest : role ≤ high) (here : role ≡ roles.taking → ⊥) where
  pub more_sound : (s : List ℕ) → length s ≤ 676 → m.added - m.taken < 64 → m.added < most → ((role ≡ roles.alone → ⊥) → m.added + m.taken < most)
      → Sound low high (one_more m role) (filled rooms m.added s)
  unfolding one_more
  more_sound s short space small numbered = record {
    least = least;
    greatest = greatest;
    counted = omega (arith, v.ordered);
    adds = λ e. omega (arith, v.ordered);
    takes = λ e. absurd (here e);
    small = omega arith;
    numbered = λ d. omega (arith, numbered d);
    filled = rw (gone_is (one_more m role) here) (next_filled v s short (omega (arith, v.ordered)));
  }

  pub less_sound : (role ≡ roles.adding → ⊥) → m.taken < m.added → m.added ≤ most → ((role ≡ roles.alone → ⊥) → m.added + m.taken < most)
      → Sound low high (one_taken m role) (cleared rooms m.taken)
  unfolding one_taken
  less_sound other some small numbered = record {
    least = least;
    greatest = greatest;
    counted = omega arith;
    adds = λ e. absurd (other e);
    takes = λ e. absurd (here e);
    small = small;
    numbered = λ d. omega (arith, numbered d);
    filled = rw (gone_is (one_taken m role) here) (first_cleared v some);
  }

-- ---- what is handed out: with number 0, none
pub none_handed : (strip : List ℕ) → handed_in (number_bytes 0) strip ≡ mirror.done
unfolding handed_in number_at number_bytes
none_handed strip = refl

pub some_handed : (n : ℕ) (strip : List ℕ) → n ≤ most → 0 < n → handed_in (number_bytes n) strip ≡ mirror.handed (n, strip_in strip)
unfolding handed_in
some_handed n strip h p = rw (number_back n h, ne_eqb n 0 (λ e. omega arith)) refl

-- ---- a call refuses or is done as the rule: the same checks, and what is told of either end agrees
module _ {X T : Type 0} (tell : X → T) (P : X → Type 0) (deny : Refusal → X) (deny' : Refusal → T) (give : X) (give' : T)
    (stops : (r : Refusal) → (tell (deny r) ≡ deny' r) × P (deny r)) where
  pub first_follows : (checks : Checks) → (passes checks ≡ true → (tell give ≡ give') × P give) → (tell (first checks deny give) ≡ first checks deny' give') × P (first checks deny give)
  unfolding first passes
  first_follows [] f = f refl
  first_follows ((n, true) ∷ checks) f = stops _
  first_follows ((n, false) ∷ checks) f = first_follows checks f

  pub lent_follows : (checks checks' : Checks) → checks ≡ (6, false) ∷ checks' → (passes checks' ≡ true → (tell give ≡ give') × P give)
      → (tell (first checks deny give) ≡ first checks' deny' give') × P (first checks deny give)
  unfolding first
  lent_follows checks checks' e f = rw e (first_follows checks' f)

-- what a call tells and leaves stands for what the rule says and leaves, and is sound
abbrev pub Follows : {A : Type 0} → (Cabinet → Type 0) → (Cabinet → A) → Said × Cabinet → Said × A → Type 0
Follows {A} P of r t = ◌≡◌ {A = Said × A} (r.0, of r.1) t × P r.1
