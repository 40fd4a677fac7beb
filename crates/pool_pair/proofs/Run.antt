-- Every event of the two cabinets is the same event of the system, and keeps both masters sound, messages on the link and acknowledgements on its way back; from the calls of each master. Assumes nothing.
use Prim.{tt}
use Prim.Native.Nat.{ℕ, zero, suc, ◌+◌, ◌≤◌}
use native.Mathlib.Omega.{arith}
use mathlib.Core.Path.{◌≡◌, refl, sym, ap, ◌∙◌}
use mathlib.Core.List.{List, [], ◌∷◌, ◌++◌, append_assoc}
use mathlib.Core.Bool.{Bool, cond}
use lib.ListN.{length, replicate}
use lib.Dec.{eqb}
use borrow.Author.Tests.{eqb-true, eqb-false}
use Rattle.std.specs.Prelude.{Ok, Err, Some}
use Rattle.refusal.specs.Answer.{Answer}
use Rattle.strip.specs.Strip.{own_checks}
use Rattle.pool_numbers.specs.Numbers.{number_at}
use Rattle.pool_message.specs.Message.{acknowledgement, read_of}
use Rattle.pool_message.specs.declared.Message.TheVariants.{Acknowledges}
use Rattle.pool_mirror.specs.Mirror as mirror
use Rattle.pool_mirror.specs.Mirror.{most, Strips, Said, Event, adds_strip, takes_strip, sends, arrives, answered, cuts, adds_alone, takes_alone, at, paper, step, after}
use Rattle.pool_mirror.proofs.Pools.{all_append, all_at}
use Rattle.pool_state.specs.State as roles
use Rattle.pool_state.specs.State.{state_in, gone}
use Rattle.pool_adding.specs.Adding.{add_of}
use Rattle.pool_pair.specs.Pair.{Cabinet, Cabinets, told, after_add, add, take_out, acknowledge, apply, apply_at, go_alone, outstanding, sent_back, next_number, with_active, with_added, with_sent, with_standby, with_added_alone, with_taken_alone, arrived, came, ran_step, bare, begin, ran, pool_in, out_in, active_in, standby_in, messages_in, numbers_in, stands_for, held_in}
use Rattle.pool_pair.specs.Claims.{rules, Means, Messages, Acknowledgements}
use Rattle.pool_pair.proofs.Rooms.{by_bool, none_filled}
use Rattle.pool_pair.proofs.Bytes.{acknowledgement_back}
use Rattle.pool_pair.proofs.Master.{Kept, gone_is}
use Rattle.pool_pair.proofs.Active.{Active, add_follows, take_follows, acknowledge_follows, outstanding_follows}
use Rattle.pool_pair.proofs.Standby.{Standby, apply_follows}
use Rattle.pool_pair.proofs.Alone.{pool_of, cut_follows, waits_add, waits_take, lone_is, add_alone_follows, take_alone_follows}

-- ---- what is kept
abbrev pub by_itself : Cabinets → ℕ
by_itself c = length c.entered_alone + length c.offered

pub record Runs (c : Cabinets) : Type 0 where
  pub near : Active c.active
  pub far : Standby (by_itself c) c.standby
  pub link : Messages c.link
  pub back : Acknowledgements c.back

-- ---- the link stands for as many messages as it has entries
messages_append : (k l : List (List ℕ)) → messages_in (k ++ l) ≡ messages_in k ++ messages_in l
unfolding messages_in
messages_append [] l = refl
messages_append (bytes ∷ k) l = rw (messages_append k l, append_assoc) refl

messages_at : (k : ℕ) (l : List (List ℕ)) → Messages l → at k (messages_in l) ≡ messages_in (at k l)
unfolding messages_in
messages_at k [] h = refl
messages_at zero (bytes ∷ l) h = rw h.0.1.0 refl
messages_at (suc k) (bytes ∷ l) h = rw h.0.1.0 (messages_at k l h.1)

-- and its way back for as many numbers
number_is : (bytes : List ℕ) (k : ℕ) → bytes ≡ acknowledgement k → k ≤ most → read_of bytes ≡ Some (Acknowledges k)
number_is bytes k e h = rw e (acknowledgement_back k h)

numbers_at : (k : ℕ) (l : List (List ℕ)) → Acknowledgements l → at k (numbers_in l) ≡ numbers_in (at k l)
unfolding numbers_in
numbers_at k [] h = refl
numbers_at zero (bytes ∷ l) h = rw (number_is bytes h.0.0 h.0.1 h.0.2) refl
numbers_at (suc k) (bytes ∷ l) h = rw (number_is bytes h.0.0 h.0.1 h.0.2) (numbers_at k l h.1)

-- an addition hands nothing out
none_handed_out : (s : List ℕ) (c : Cabinet) (l : Strips) → mirror.note_handed (add s c).0 l ≡ l
unfolding add after_add
none_handed_out s c l = go (add_of c.state c.rooms s).0 where
  go : (x : Answer (Unit {0})) → mirror.note_handed (told x mirror.done) l ≡ l
  go (Ok x) = refl
  go (Err r) = refl

-- ---- each event
abbrev pub Lifts : Cabinets → mirror.World → Type 0
Lifts c w = (stands_for c ≡ w) × Runs c

module _ (c : Cabinets) (v : Runs c) where
  abbrev w : mirror.World
  w = stands_for c

  lifts_add : (s : List ℕ) → Lifts (with_added c s (add s c.active)) (mirror.with_added w s (mirror.add own_checks s w.active))
  unfolding with_added mirror.with_added stands_for next_number active_in pool_in
  lifts_add s =
      let f = add_follows c.active v.near s in
      (ap (mirror.with_added w s) f.0, record { near = f.1; far = v.far; link = v.link; back = v.back })

  lifts_take : Lifts (with_active c (take_out c.active)) (mirror.with_active w (mirror.take w.active))
  unfolding with_active mirror.with_active stands_for
  lifts_take =
      let f = take_follows c.active v.near in
      (ap (mirror.with_active w) f.0, record { near = f.1; far = v.far; link = v.link; back = v.back })

  lifts_acknowledge : (bytes : List ℕ) (k : ℕ) → read_of bytes ≡ Some (Acknowledges k) → Lifts (with_active c (acknowledge bytes c.active)) (mirror.with_active w (mirror.acknowledge k w.active))
  unfolding with_active mirror.with_active stands_for
  lifts_acknowledge bytes k e =
      let f = acknowledge_follows c.active v.near bytes k e in
      (ap (mirror.with_active w) f.0, record { near = f.1; far = v.far; link = v.link; back = v.back })

  lifts_send : Lifts (with_sent c (outstanding c.active)) (mirror.with_sent w (mirror.outstanding w.active))
  unfolding with_sent mirror.with_sent stands_for
  lifts_send =
      let f = outstanding_follows c.active v.near in
      (rw (messages_append (outstanding c.active) c.link, f.0) refl, record { near = v.near; far = v.far; link = all_append _ (outstanding c.active) c.link f.1 v.link; back = v.back })

  lifts_apply : (bytes : List ℕ) (x : mirror.Message) → Means bytes x
      → Lifts (with_standby c (sent_back (apply_at bytes c.standby)) (apply bytes c.standby)) (mirror.with_standby w (mirror.receive own_checks x w.standby))
  unfolding with_standby mirror.with_standby stands_for apply
  lifts_apply bytes x h =
      let f = apply_follows c.standby (by_itself c) v.far bytes x h in (
        rw (f.1.noted c.back) (ap (mirror.with_standby w) f.0),
        record { near = v.near; far = f.1.still; link = v.link; back = all_append _ (sent_back (apply_at bytes c.standby)) c.back f.1.back v.back },
      )

  lifts_cut : Lifts (with_standby c [] (go_alone c.standby)) (mirror.with_standby w (mirror.done, mirror.go_alone w.standby))
  unfolding with_standby mirror.with_standby stands_for
  lifts_cut =
      let f = cut_follows c.standby c.entered_alone c.offered v.far in
      (rw (ap (λ (t : Said × mirror.Standby). t.1) f.0) refl, record { near = v.near; far = f.1; link = v.link; back = v.back })

  abbrev role : ℕ
  role = (state_in c.standby.state).role

  -- adding and taking are asked of any standby: one that is not alone changes nothing, as in the system
  by_alone : (c' : Cabinets) (x : mirror.World) → (role ≡ roles.standby → c' ≡ c) → (role ≡ roles.alone → Lifts c' x) → Lifts c' (cond w.standby.alone x w)
  unfolding stands_for standby_in
  by_alone c' x waits goes_on = by_bool (eqb role roles.alone)
      (λ t. let h = goes_on (eqb-true role roles.alone t) in (h.0 ∙ ap (λ (b : Bool). cond b x w) (sym t), h.1))
      (λ f.
      let e : role ≡ roles.standby = omega (arith, eqb-false role roles.alone f, v.far.kept.sound.least, v.far.kept.sound.greatest) in
      (ap stands_for (waits e) ∙ ap (λ (b : Bool). cond b x w) (sym f), rw (waits e) v))

  lifts_add_alone : (s : List ℕ) → Lifts (with_added_alone c s (add s c.standby)) (cond w.standby.alone (mirror.added_alone w s (mirror.add_alone own_checks s w.standby.pool)) w)
  unfolding with_added_alone mirror.added_alone mirror.with_alone stands_for standby_in next_number pool_in add
  lifts_add_alone s =
      by_alone _ _ (λ e. ap (with_added_alone c s) (waits_add c.standby c.entered_alone c.offered v.far s e)) (λ e.
      let f = add_alone_follows c.standby c.entered_alone c.offered v.far e s in
      let u = f.1 (next_number c.standby, s) in
      let same : stands_for (with_added_alone c s (add s c.standby)) ≡ mirror.added_alone w s ((add s c.standby).0, pool_of (add s c.standby).1) = rw (none_handed_out s c.standby c.offered, lone_is c.standby c.entered_alone c.offered v.far _ _ u) refl in
      (same ∙ ap (mirror.added_alone w s) f.0, record { near = v.near; far = u.still; link = v.link; back = v.back }))

  lifts_take_alone : Lifts (with_taken_alone c (take_out c.standby)) (cond w.standby.alone (mirror.with_alone w w.entered_alone (mirror.take_alone w.standby.pool)) w)
  unfolding with_taken_alone mirror.with_alone stands_for standby_in take_out
  lifts_take_alone =
      by_alone _ _ (λ e. ap (with_taken_alone c) (waits_take c.standby c.entered_alone c.offered v.far e)) (λ e.
      let f = take_alone_follows c.standby c.entered_alone c.offered v.far e in
      let same : stands_for (with_taken_alone c (take_out c.standby)) ≡ mirror.with_alone w c.entered_alone ((take_out c.standby).0, pool_of (take_out c.standby).1) = rw (lone_is c.standby c.entered_alone c.offered v.far _ _ f.1) refl in
      (same ∙ ap (mirror.with_alone w c.entered_alone) f.0, record { near = v.near; far = f.1.still; link = v.link; back = v.back }))

  lifts_arrived : (l : List (List ℕ)) → Messages l → Lifts (arrived c l) (mirror.arrived rules w (messages_in l))
  unfolding arrived mirror.arrived messages_in paper
  lifts_arrived [] h = (refl, v)
  lifts_arrived (bytes ∷ l) h = rw h.0.1.0 (lifts_apply bytes h.0.0 h.0.1)

  lifts_came : (l : List (List ℕ)) → Acknowledgements l → Lifts (came c l) (mirror.came rules w (numbers_in l))
  unfolding came mirror.came numbers_in paper
  lifts_came [] h = (refl, v)
  lifts_came (bytes ∷ l) h = let e = number_is bytes h.0.0 h.0.1 h.0.2 in rw e (lifts_acknowledge bytes h.0.0 e)

pub lifts : (c : Cabinets) → Runs c → (e : Event) → Lifts (ran_step c e) (step rules (stands_for c) e)
unfolding ran_step step paper stands_for
lifts c v (adds_strip s) = lifts_add c v s
lifts c v takes_strip = lifts_take c v
lifts c v sends = lifts_send c v
lifts c v (arrives k) = rw (messages_at k c.link v.link) (lifts_arrived c v (at k c.link) (all_at _ k c.link v.link))
lifts c v (answered k) = rw (numbers_at k c.back v.back) (lifts_came c v (at k c.back) (all_at _ k c.back v.back))
lifts c v cuts = lifts_cut c v
lifts c v (adds_alone s) = lifts_add_alone c v s
lifts c v takes_alone = lifts_take_alone c v

-- ---- the start
bare_state : (role : ℕ) → state_in (role ∷ replicate 8 0) ≡ record { role = role; added = 0; taken = 0 }
unfolding state_in number_at
bare_state role = refl

bare_sound : (low high role : ℕ) → low ≤ role → role ≤ high → (role ≡ roles.adding → ⊥) → (role ≡ roles.taking → ⊥) → Kept low high (bare role)
unfolding bare gone
bare_sound low high role l h a t = record {
  nine = refl;
  sound = rw (bare_state role) (record {
    least = l;
    greatest = h;
    counted = omega arith;
    adds = λ e. absurd (a e);
    takes = λ e. absurd (t e);
    small = omega arith;
    numbered = λ _. omega arith;
    filled = rw (gone_is (record { role = role; added = 0; taken = 0 }) t) none_filled;
  });
}

bare_active : (rooms : List ℕ) → active_in (state_in (roles.active ∷ replicate 8 0)) rooms ≡ (mirror.start).active
unfolding active_in pool_in out_in held_in mirror.start mirror.empty
bare_active rooms = rw (bare_state roles.active) refl

bare_standby : (role : ℕ) (rooms : List ℕ) → standby_in (state_in (role ∷ replicate 8 0)) rooms 0 ≡ record { pool = mirror.empty; applied = 0; alone = eqb role roles.alone }
unfolding standby_in pool_in held_in mirror.empty
bare_standby role rooms = rw (bare_state role) refl

begins_same : stands_for begin ≡ mirror.start
unfolding stands_for begin bare messages_in numbers_in mirror.start
begins_same = rw (bare_active, bare_standby) refl

pub begins : Lifts begin mirror.start
unfolding begin
begins = (
  begins_same,
  record {
    near = bare_sound 0 2 _ (omega arith) (omega arith) (λ e. omega arith) (λ e. omega arith);
    far = record { kept = bare_sound 3 4 _ (omega arith) (omega arith) (λ e. omega arith) (λ e. omega arith); alone = λ _. refl };
    link = tt;
    back = tt;
  },
)

pub runs : (es : List Event) → Lifts (ran es) (after rules es)
unfolding ran after
runs [] = begins
runs (e ∷ es) = let h = runs es in let f = lifts (ran es) h.1 e in (f.0 ∙ ap (λ (w : mirror.World). step rules w e) h.0, f.1)
