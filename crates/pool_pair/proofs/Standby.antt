-- The standby, until it goes on alone and from then on: each of its calls follows the system's rule; from what is known of one master. Assumes nothing.
use Prim.{tt}
use Prim.Native.Nat.{ℕ, zero, suc, ◌+◌, ◌-◌, ◌<◌, ◌≤◌}
use native.Mathlib.Omega.{arith}
use mathlib.Core.Path.{◌≡◌, refl, sym, subst, ap, ◌∙◌}
use mathlib.Core.List.{List, [], ◌∷◌, ◌++◌}
use mathlib.Core.Bool.{Bool, true, false, not, cond, ◌&&◌, ◌||◌}
use lib.ListN.{length, drop, replicate}
use lib.Dec.{eqb, ltb, leb}
use borrow.Author.Tests.{eqb-true, eqb-false, leb-false, ltb-true, ltb-false, le-ltb, lt-ltb, le-leb, lt-leb, eq-eqb, ne_eqb, not-false}
use Rattle.refusal.specs.declared.Refusal.{Refusal}
use Rattle.std.specs.Prelude.{Ok, Err, Option, Some, None}
use Rattle.refusal.specs.Answer.{Answer, first, is_not, passes}
use Rattle.refusal.proofs.First.{clash, neither, both_true, true_false, passes_first}
use Rattle.strip.specs.Strip.{own_checks}
use Rattle.pool_message.specs.Message.{acknowledgement, read_of, sequence}
use Rattle.pool_message.specs.declared.Message.{Message}
use Rattle.pool_message.specs.declared.Message.TheVariants.{Adds, Takes, Acknowledges}
use Rattle.pool_mirror.specs.Mirror as mirror
use Rattle.pool_mirror.specs.Mirror.{most, Said, Checks}
use Rattle.pool_state.specs.declared.State.{State}
use Rattle.pool_state.specs.State as roles
use Rattle.pool_state.specs.State.{state_in, state_bytes, sent, one_more, one_taken}
use Rattle.pool_master.specs.Master.{waiting, counts}
use Rattle.pool_rooms.specs.Rooms.{filled, cleared}
use Rattle.pool_lent.specs.Lent.{not_lent_with}
use Rattle.pool_standby.specs.Calls as calls
use Rattle.pool_fits.specs.Fits as fitted
use Rattle.pool_fits.specs.Fits.{is_message}
use Rattle.pool_standby.specs.Calls.{apply_of}
use Rattle.pool_sending.specs.Outstanding.{message_of}
use Rattle.pool_taking.specs.Taking.{acknowledge_of, handing_none}
use Rattle.pool_pair.specs.Pair.{Cabinet, after_handing, after_apply, acknowledge, apply_at, apply, outstanding, sent_back, held_in, pool_in, standby_in, message_in, numbers_in}
use Rattle.pool_pair.specs.Claims.{Means, Acknowledgements, refused16}
use Rattle.pool_pair.proofs.Rooms.{by_bool, Filled, held_length}
use Rattle.pool_pair.proofs.Bytes.{own_good, none_sent, acknowledgement_back}
use Rattle.pool_pair.proofs.Master.{none_handed, Sound, Kept, lent_follows, sound_back, kept_new, lent_with, lent_out, sent_is, pool_more, pool_less, pool_cleared, gone_is, more_sound, less_sound}

-- what it stands for, and that it is sound; what it did by itself it did alone
abbrev pub standby_of : ℕ → Cabinet → mirror.Standby
standby_of by_itself c = standby_in (state_in c.state) c.rooms by_itself

pub record Standby (by_itself : ℕ) (c : Cabinet) : Type 0 where
  -- roles 3 and 4
  pub kept : Kept 3 4 c
  pub alone : (state_in c.state).role ≡ roles.standby → by_itself ≡ 0

-- ---- what a message asks for, in bytes and in the system
either_true : (a : Bool) → (a || true) ≡ true
either_true true = refl
either_true false = refl

excluded : (a b : Bool) → (a && not b) ≡ false → a ≡ true → b ≡ true
excluded true b e f = not-false b e
excluded false b e f = absurd (true_false (sym f))

below : (x : ℕ) → ltb x 64 ≡ not (leb 64 x)
below x = go (ltb x 64) refl where
  go : (t : Bool) → ltb x 64 ≡ t → t ≡ not (leb 64 x)
  go true e = rw (lt-leb 64 x (ltb-true x 64 e)) refl
  go false e = rw (le-leb 64 x (ltb-false x 64 e)) refl

-- the standby after a message that fits
record Applied (m : State) (before : List ℕ) (x : mirror.Message) (new : List ℕ × List ℕ) : Type 0 where
  state : State
  rooms : List ℕ
  is : new ≡ (state_bytes state, rooms)
  role : state.role ≡ roles.standby
  sound : Sound 3 4 state rooms
  same : pool_in state rooms ≡ mirror.apply_to x (pool_in m before)
  next : sent state ≡ suc (sent m)

-- what is read from bytes is this message of the system
record Reads (m : State) (rooms s : List ℕ) (r : Option Message) (x : mirror.Message) : Type 0 where
  message : is_message r ≡ true
  numbered : sequence r ≡ mirror.sequence x
  fitting : fitted.fits m r s ≡ mirror.fits own_checks (pool_in m rooms) x
  applying : Filled m.taken m.added rooms → m.added + m.taken < most → fitted.fits m r s ≡ true → Applied m rooms x (calls.applied m r s rooms)

module _ (m : State) (rooms s : List ℕ) where
  adds_fit : (k n : ℕ) → fitted.fits m (Some (Adds k n)) s ≡ mirror.fits own_checks (pool_in m rooms) (mirror.adds k n s)
  unfolding fitted.fits mirror.fits passes pool_in
  adds_fit k n = rw (held_length rooms m.taken (m.added - m.taken), below (m.added - m.taken)) refl

  takes_fit : (k n : ℕ) → fitted.fits m (Some (Takes k n)) s ≡ mirror.fits own_checks (pool_in m rooms) (mirror.takes k n)
  unfolding fitted.fits mirror.fits pool_in held_in
  takes_fit k n = go (m.added - m.taken) refl where
    go : (count : ℕ) → m.added - m.taken ≡ count → (ltb m.taken m.added && eqb n (suc m.taken)) ≡ mirror.lowest_is n (held_in rooms m.taken count)
    go zero e = rw (le-ltb m.taken m.added (omega arith)) refl
    go (suc count) e = rw (lt-ltb m.taken m.added (omega arith)) refl

  module _ (f : Filled m.taken m.added rooms) (small : m.added + m.taken < most) where
    adds_applied : (k n : ℕ) → fitted.fits m (Some (Adds k n)) s ≡ true → Applied m rooms (mirror.adds k n s) (calls.applied m (Some (Adds k n)) s rooms)
    unfolding fitted.fits calls.applied mirror.apply_to one_more passes
    adds_applied k n e =
        let p = both_true (passes (own_checks s)) _ e in
        let q = both_true (ltb (m.added - m.taken) 64) _ p.1 in
        let g = own_good s p.0 in
        let space : m.added - m.taken < 64 = ltb-true _ 64 q.0 in
        record {
          state = one_more m roles.standby;
          rooms = filled rooms m.added s;
          is = refl;
          role = refl;
          sound = more_sound m f 3 4 roles.standby (omega arith) (omega arith) (λ x. omega arith) s g.short space (omega arith) (λ _. small);
          same = pool_more m rooms roles.standby s g f (omega arith) f.ordered (omega (arith, f.ordered));
          next = omega arith;
        }

    takes_applied : (k n : ℕ) → fitted.fits m (Some (Takes k n)) s ≡ true → Applied m rooms (mirror.takes k n) (calls.applied m (Some (Takes k n)) s rooms)
    unfolding fitted.fits calls.applied mirror.apply_to one_taken
    takes_applied k n e =
        let some : m.taken < m.added = ltb-true m.taken m.added (both_true (ltb m.taken m.added) _ e).0 in
        record {
          state = one_taken m roles.standby;
          rooms = cleared rooms m.taken;
          is = refl;
          role = refl;
          sound = less_sound m f 3 4 roles.standby (omega arith) (omega arith) (λ x. omega arith) (λ x. omega arith) some (omega arith) (λ _. small);
          same = pool_cleared (one_taken m roles.standby) rooms f (omega arith) (omega arith) ∙ pool_less m rooms roles.standby some;
          next = omega arith;
        }

  reads : (r : Option Message) (x : mirror.Message) → message_in r s ≡ x ∷ [] → Reads m rooms s r x
  reads (Some (Adds k n)) x e =
      let q : mirror.adds k n s ≡ x = cc in
      subst (Reads m rooms s (Some (Adds k n))) q (record { message = refl; numbered = refl; fitting = adds_fit k n; applying = λ f small. adds_applied f small k n })
  reads (Some (Takes k n)) x e =
      let q : mirror.takes k n ≡ x = cc in
      subst (Reads m rooms s (Some (Takes k n))) q (record { message = refl; numbered = refl; fitting = takes_fit k n; applying = λ f small. takes_applied f small k n })
  reads (Some (Acknowledges k)) x e = clash cc
  reads None x e = clash cc

standby_is : {p p' : mirror.Pool} {n n' : ℕ} {t t' : Bool} → p ≡ p' → n ≡ n' → t ≡ t' → ◌≡◌ {A = mirror.Standby} (record { pool = p; applied = n; alone = t }) (record { pool = p'; applied = n'; alone = t' })
standby_is e f g = cc

-- ---- a message, or bytes that are none
module _ (c : Cabinet) (n : ℕ) (v : Standby n c) where
  abbrev m : State
  m = state_in c.state

  abbrev b : mirror.Standby
  b = standby_of n c

  -- what is kept where a message was applied; and what goes back is what the system notes
  pub record Heard (x : Answer (Unit {0}) × (List ℕ × (List ℕ × List ℕ))) : Type 0 where
    pub still : Standby n (after_apply x).1
    pub noted : (l : List (List ℕ)) → numbers_in (sent_back x ++ l) ≡ mirror.note_acknowledged (after_apply x).0 (numbers_in l)
    pub back : Acknowledgements (sent_back x)

  abbrev Hears : Answer (Unit {0}) × (List ℕ × (List ℕ × List ℕ)) → Said × mirror.Standby → Type 0
  Hears x t = ◌≡◌ {A = Said × mirror.Standby} ((after_apply x).0, standby_of n (after_apply x).1) t × Heard x

  apply_checks_law : (bytes : List ℕ) (t : Bool) → fitted.not_applied m (read_of bytes) (drop 12 bytes) ≡ t
      → ◌≡◌ {A = Checks} ((6, not_lent_with 8 c.state (length c.rooms) (length {A = ℕ} (replicate 8 0))) ∷ (16, fitted.not_applied m (read_of bytes) (drop 12 bytes)) ∷ []) ((6, false) ∷ (16, t) ∷ [])
  apply_checks_law bytes t e = rw (lent_with v.kept (omega arith) 8, e) refl

  -- a refusal leaves all as it was
  unheard : (r : Refusal) → Hears (Err r, (c.state, (c.rooms, replicate 8 0))) (mirror.refused r, b)
  unfolding after_apply sent_back
  unheard r = (refl, record { still = v; noted = λ l. refl; back = tt })

  module _ (bytes : List ℕ) (x : mirror.Message) (means : Means bytes x) where
    abbrev r : Option Message
    r = read_of bytes

    abbrev s : List ℕ
    s = drop 12 bytes

    read : Reads m c.rooms s r x
    read = reads m c.rooms s r x means.0

    same_applied : fitted.not_applied m r s ≡ mirror.not_applied own_checks x b
    unfolding fitted.not_applied mirror.not_applied standby_in
    same_applied = by_bool (eqb m.role roles.standby) waits goes_on where
      waits : eqb m.role roles.standby ≡ true → fitted.not_applied m r s ≡ mirror.not_applied own_checks x b
      waits t =
          let e : m.role ≡ roles.standby = eqb-true m.role roles.standby t in
          let level : sent m - n ≡ sent m = omega (arith, v.alone e) in
          rw (level, read.message, read.numbered, read.fitting, e) refl

      goes_on : eqb m.role roles.standby ≡ false → fitted.not_applied m r s ≡ mirror.not_applied own_checks x b
      goes_on f =
          let e : m.role ≡ roles.alone = omega (arith, eqb-false m.role roles.standby f, v.kept.sound.least, v.kept.sound.greatest) in
          rw e refl

    -- the acknowledgement that goes back
    acknowledges : read_of (acknowledgement (mirror.sequence x)) ≡ Some (Acknowledges (mirror.sequence x))
    acknowledges = acknowledgement_back (mirror.sequence x) means.1

    heard : (state rooms : List ℕ) → Standby n (record { state = state; rooms = rooms }) → Heard (Ok tt, (state, (rooms, acknowledgement (mirror.sequence x))))
    unfolding after_apply sent_back numbers_in
    heard state rooms u = record {
      still = u;
      noted = λ l. rw acknowledges refl;
      back = ((mirror.sequence x, refl, means.1), tt);
    }

    -- one that is not refused finds a standby that is not alone, and is at most the next, and then one that fits
    in_turn : mirror.not_applied own_checks x b ≡ false → (m.role ≡ roles.standby) × (mirror.sequence x ≤ suc (sent m)) × (mirror.sequence x ≡ suc (sent m) → fitted.fits m r s ≡ true)
    unfolding mirror.not_applied standby_in
    in_turn e =
        let p = neither (eqb m.role roles.alone) _ e in
        let q = neither (ltb (suc (sent m - n)) (mirror.sequence x)) _ p.1 in
        let here : m.role ≡ roles.standby = omega (arith, eqb-false m.role roles.alone p.0, v.kept.sound.least, v.kept.sound.greatest) in
        let level : sent m - n ≡ sent m = omega (arith, v.alone here) in
        let most_next : mirror.sequence x ≤ suc (sent m) = omega (arith, ltb-false (suc (sent m - n)) (mirror.sequence x) q.0) in
        (here, most_next, λ i. read.fitting ∙ excluded (eqb (mirror.sequence x) (suc (sent m - n))) _ q.1 (eq-eqb (mirror.sequence x) (suc (sent m - n)) (omega arith)))

    abbrev after : mirror.Standby
    after = record { pool = mirror.apply_to x b.pool; applied = mirror.sequence x; alone = b.alone }

    hears_old : Hears (Ok tt, (c.state, (c.rooms, acknowledgement (mirror.sequence x)))) (mirror.acknowledged (mirror.sequence x), b)
    unfolding after_apply
    hears_old = (rw acknowledges refl, heard c.state c.rooms v)

    hears_next : m.role ≡ roles.standby → mirror.sequence x ≡ suc (sent m) → (w : Applied m c.rooms x (calls.applied m r s c.rooms))
        → let now : List ℕ × List ℕ = calls.applied m r s c.rooms in Hears (Ok tt, (now.0, (now.1, acknowledgement (mirror.sequence x)))) (mirror.acknowledged (mirror.sequence x), after)
    unfolding after_apply standby_in
    hears_next here i w =
        let z : n ≡ 0 = v.alone here in
        let same : standby_in w.state w.rooms n ≡ after = standby_is w.same (omega (arith, w.next)) (ap (λ (y : ℕ). eqb y roles.alone) (w.role ∙ sym here)) in
        rw w.is (
          rw acknowledges (ap (λ (y : mirror.Standby). (mirror.acknowledged (mirror.sequence x), y)) (rw (sound_back w.sound) same)),
          heard (state_bytes w.state) w.rooms (record { kept = kept_new w.sound; alone = λ _. z }),
        )

    applies : m.role ≡ roles.standby → mirror.sequence x ≡ suc (sent m) → fitted.fits m r s ≡ true → Applied m c.rooms x (calls.applied m r s c.rooms)
    applies here i fit = read.applying (rw (gone_is m (λ e. omega arith)) at v.kept.sound.filled) (omega (arith, means.1)) fit

    pub apply_follows : Hears (apply_at bytes c) (mirror.receive own_checks x b)
    unfolding apply_of mirror.receive mirror.unless standby_in
    apply_follows =
        lent_follows (λ y. ((after_apply y).0, standby_of n (after_apply y).1)) Heard _ (λ r. (mirror.refused r, b)) _ _ unheard _ ((16, mirror.not_applied own_checks x b) ∷ []) (apply_checks_law bytes _ same_applied)
        (λ e. let t = in_turn (passes_first 16 (mirror.not_applied own_checks x b) [] e).0 in rw (read.numbered, level t.0) (go (leb (mirror.sequence x) (sent m)) refl t)) where
          level : m.role ≡ roles.standby → leb (mirror.sequence x) b.applied ≡ leb (mirror.sequence x) (sent m)
          level here = let z : sent m - n ≡ sent m = omega (arith, v.alone here) in ap (leb (mirror.sequence x)) z

          go : (t : Bool) → leb (mirror.sequence x) (sent m) ≡ t → (m.role ≡ roles.standby) × (mirror.sequence x ≤ suc (sent m)) × (mirror.sequence x ≡ suc (sent m) → fitted.fits m r s ≡ true)
              → let now : List ℕ × List ℕ = cond t (c.state, c.rooms) (calls.applied m r s c.rooms) in
              Hears (Ok tt, (now.0, (now.1, acknowledgement (mirror.sequence x)))) (mirror.acknowledged (mirror.sequence x), cond t b after)
          go true e t = hears_old
          go false e t =
              let i : mirror.sequence x ≡ suc (sent m) = omega (arith, leb-false (mirror.sequence x) (sent m) e) in
              hears_next t.0 i (applies t.0 i (t.2 i))

  -- bytes that are no message get 16
  pub apply_none : (bytes : List ℕ) → message_in (read_of bytes) (drop 12 bytes) ≡ [] → apply bytes c ≡ refused16 c
  unfolding apply after_apply apply_of fitted.not_applied first
  apply_none bytes e = rw (lent_with v.kept (omega arith) 8, none (read_of bytes) e, either_true (is_not roles.standby m.role)) refl where
    none : (r : Option Message) → message_in r (drop 12 bytes) ≡ [] → is_message r ≡ false
    none (Some (Adds k i)) e = clash cc
    none (Some (Takes k i)) e = clash cc
    none (Some (Acknowledges k)) e = refl
    none None e = refl

  -- ---- it has nothing outstanding, so that it sends nothing and no acknowledgement counts
  pub sends_nothing : outstanding c ≡ []
  unfolding message_of
  sends_nothing = rw (sent_is v.kept (omega arith), ne_eqb m.role roles.adding (λ e. omega (arith, v.kept.sound.least)), ne_eqb m.role roles.taking (λ e. omega (arith, v.kept.sound.least))) none_sent

  pub acknowledge_idle : (bytes : List ℕ) (k : ℕ) → read_of bytes ≡ Some (Acknowledges k) → acknowledge bytes c ≡ (mirror.done, c)
  unfolding acknowledge acknowledge_of after_handing handing_none counts waiting first
  acknowledge_idle bytes k e =
      rw (lent_out v.kept (omega arith), e, ne_eqb m.role roles.adding (λ e. omega (arith, v.kept.sound.least)), ne_eqb m.role roles.taking (λ e. omega (arith, v.kept.sound.least)), none_handed (replicate 676 0)) refl
