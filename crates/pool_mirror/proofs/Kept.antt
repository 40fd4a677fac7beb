-- What every event keeps, from the rules of a pair: how far the standby has followed, what each side holds and has handed out, and what is on the link. Assumes nothing.
use Prim.{Unit, tt}
use Prim.Native.Nat.{ℕ, suc, ◌≤◌, ◌<◌}
use native.Mathlib.Omega.{arith}
use borrow.Author.Tests.{leb-true, leb-false, eqb-true, eq-eqb}
use mathlib.Core.Path.{◌≡◌, refl, sym, subst, ap, ◌∙◌}
use mathlib.Core.Logic.{◌⊎◌, inl, inr, ⊎_elim}
use mathlib.Core.List.{List, [], ◌∷◌, ◌++◌}
use mathlib.Core.Bool.{true, false, cond}
use lib.ListN.{length}
use lib.Dec.{leb, eqb}
use Rattle.refusal.specs.Answer.{passes}
use Rattle.refusal.proofs.First.{clash, neither, true_false, passes_first, passes_both}
use Rattle.pool_mirror.specs.Mirror.{most, Strips, Pool, lowest, put, less, Said, done, handed, acknowledged, Checks, no_room, none_held, Out, nothing, adding, taking, Active, waiting, add, take, settled, acknowledge, Message, adds, takes, sequence, message_of, outstanding, Standby, lowest_is, fits, apply_to, not_applied, receive, go_alone, add_alone, take_alone, paper, World, Event, adds_strip, takes_strip, sends, arrives, answered, cuts, adds_alone, takes_alone, at, note_handed, with_active, with_added, with_sent, with_standby, with_alone, arrived, came, added_alone, step, empty, start, after}
use Rattle.pool_mirror.specs.Claims.{All, In, Above, Fit}
use Rattle.pool_mirror.proofs.Pools.{all_map, all_append, all_at, Among, Grows, grows_behind, grows_before, choose_both, unless_both, Numbered, above, numbered_to, numbered_next, Whole, whole_more, whole_put, whole_less}

-- ---- what is kept: r is the pool up to which the standby has followed the active, k the last sequence number it applied
-- the active is level with it, or ahead by the one outstanding message
pub data Sync (own : List ℕ → Checks) (r : Pool) (k : ℕ) (a : Active) : Type 0 where
  level : a.pool ≡ r → a.sent ≡ k → Sync own r k a
  ahead : (m : Message) → outstanding a ≡ m ∷ [] → a.pool ≡ apply_to m r → a.sent ≡ suc k → fits own r m ≡ true → Sync own r k a

-- an outstanding taking is of the last number taken, above all given
abbrev Pending : Strips → Strips → ℕ → Out → Type 0
Pending entered given taken nothing = Unit {0}
Pending entered given taken (adding x) = Unit {0}
Pending entered given taken (taking x) = (x.0 ≡ taken) × Above given x.0 × In x entered

-- what one master has entered: each number once, up to its last, and every strip of good form
pub record Entered (own : List ℕ → Checks) (last : ℕ) (entered : Strips) : Type 0 where
  pub numbers : Numbered 0 last entered
  pub fit : Fit own entered

enters : {own : List ℕ → Checks} {last : ℕ} {entered : Strips} (s : List ℕ) → passes (own s) ≡ true → Entered own last entered → Entered own (suc last) ((suc last, s) ∷ entered)
enters {last} s e v = record {
  numbers = numbered_next (above (suc last) (omega arith) v.numbers) (omega arith) (omega arith) (omega arith) v.numbers;
  fit = (e, v.fit);
}

-- the active: what it has given, the standby has taken too
pub record Near (own : List ℕ → Checks) (r : Pool) (k : ℕ) (entered given : Strips) (a : Active) : Type 0 where
  pub sync : Sync own r k a
  pub whole : Whole entered a.pool
  pub entries : Entered own a.pool.added entered
  pub handed_out : Numbered 0 r.taken given
  pub among : Among entered given
  pub pending : Pending entered given a.pool.taken a.out

-- the standby: what it holds and offers lies beyond r, and until it goes on alone its pool is r
pub record Far (r : Pool) (entered offered : Strips) (b : Standby) : Type 0 where
  pub whole : Whole entered b.pool
  pub beyond : r.taken ≤ b.pool.taken
  pub handed_out : Numbered (suc r.taken) b.pool.taken offered
  pub among : Among entered offered
  pub same : b.alone ≡ false → (b.pool ≡ r) × (offered ≡ [])

-- each message ever sent is old or the outstanding one, and only old ones are acknowledged
pub record Line (k : ℕ) (a : Active) (link : List Message) (back : List ℕ) : Type 0 where
  pub messages : All (λ m. (sequence m ≤ k) ⊎ (outstanding a ≡ m ∷ [])) link
  pub answers : All (λ n. n ≤ k) back

pub record Kept (own : List ℕ → Checks) (w : World) : Type 0 where
  pub r : Pool
  pub near : Near own r w.standby.applied w.entered w.given w.active
  pub far : Far r (w.entered_alone ++ w.entered) w.offered w.standby
  pub alone : Entered own w.standby.pool.added w.entered_alone
  pub line : Line w.standby.applied w.active w.link w.back

-- the outstanding message has the last number sent
pub numbered : (a : Active) (m : Message) → outstanding a ≡ m ∷ [] → sequence m ≡ a.sent
unfolding outstanding
numbered a m e = go a.out e where
  go : (o : Out) → message_of a.sent o ≡ m ∷ [] → sequence m ≡ a.sent
  go nothing e = clash cc
  go (adding (n, s)) e = let q : m ≡ adds a.sent n s = cc in rw q refl
  go (taking (n, s)) e = let q : m ≡ takes a.sent n = cc in rw q refl

module _ {own : List ℕ → Checks} {r : Pool} {k : ℕ} {a : Active} where
  -- nothing is outstanding, or what was sent last is applied: all is level
  pub quiet : a.out ≡ nothing → Sync own r k a → (a.pool ≡ r) × (a.sent ≡ k)
  unfolding outstanding
  quiet o (level e f) = (e, f)
  quiet o (ahead m e f g x) = clash cc

  followed : a.sent ≤ k → Sync own r k a → (a.pool ≡ r) × (a.sent ≡ k)
  followed h (level e f) = (e, f)
  followed h (ahead m e f g x) = absurd (omega arith)

  -- a new message, where nothing was outstanding
  moves : {a' : Active} (m : Message) → a.out ≡ nothing → outstanding a' ≡ m ∷ [] → a'.pool ≡ apply_to m a.pool → a'.sent ≡ suc a.sent
      → fits own a.pool m ≡ true → Sync own r k a → Sync own r k a'
  moves m o e f g h v =
      let q = quiet o v in
      ahead m e (f ∙ ap (apply_to m) q.0) (g ∙ ap suc q.1) (subst (λ (x : Pool). fits own x m ≡ true) q.0 h)

-- what is on the link is old once nothing is outstanding
line_new : {k : ℕ} {a a' : Active} {link : List Message} {back : List ℕ} → a.out ≡ nothing → Line k a link back → Line k a' link back
unfolding outstanding
line_new {link} o v = record {
  messages = all_map link (λ m. ⊎_elim inl (λ e. clash cc)) v.messages;
  answers = v.answers;
}

far_more : {r : Pool} {k l offered : Strips} {b : Standby} → Grows k l → Far r k offered b → Far r l offered b
far_more {offered} g v = record {
  whole = whole_more g v.whole;
  beyond = v.beyond;
  handed_out = v.handed_out;
  among = all_map offered g v.among;
  same = v.same;
}

not_waiting : (o : Out) → waiting o ≡ false → o ≡ nothing
not_waiting nothing e = refl
not_waiting (adding x) e = absurd (true_false e)
not_waiting (taking x) e = absurd (true_false e)

-- what the active lets through the standby can apply
fits_add : (own : List ℕ → Checks) (k : ℕ) (s : List ℕ) (p : Pool) → passes (own s) ≡ true → no_room p ≡ false → fits own p (adds k (suc p.added) s) ≡ true
unfolding fits no_room
fits_add own k s p e f = simp (e, (neither (leb 64 (length p.held)) (leb most p.added) f).0, eq-eqb (suc p.added) (suc p.added) refl)

fits_take : (own : List ℕ → Checks) (k : ℕ) (p : Pool) → none_held p.held ≡ false → fits own p (takes k (lowest p.held).0) ≡ true
unfolding fits
fits_take own k p e = go p.held e where
  go : (l : Strips) → none_held l ≡ false → lowest_is (lowest l).0 l ≡ true
  go [] e = absurd (true_false e)
  go (x ∷ l) e = eq-eqb x.0 x.0 refl

-- a message applied takes nothing back
apply_grows : (m : Message) (p : Pool) → (p.taken ≤ (apply_to m p).taken) × (p.added ≤ (apply_to m p).added)
unfolding apply_to put less
apply_grows (adds k n s) p = (omega arith, omega arith)
apply_grows (takes k n) p = (omega arith, omega arith)

not_alone : (own : List ℕ → Checks) (m : Message) (b : Standby) → not_applied own m b ≡ false → b.alone ≡ false
unfolding not_applied
not_alone own m b e = (neither b.alone _ e).0

itself : (a : Active) → All (λ m. outstanding a ≡ m ∷ []) (outstanding a)
unfolding outstanding
itself a = go a.out where
  go : (o : Out) → All (λ m. message_of a.sent o ≡ m ∷ []) (message_of a.sent o)
  go nothing = tt
  go (adding (n, s)) = (refl, tt)
  go (taking (n, s)) = (refl, tt)

-- ---- each event keeps it
module _ (own : List ℕ → Checks) (w : World) (v : Kept own w) where
  abbrev a : Active
  a = w.active

  abbrev b : Standby
  b = w.standby

  keeps_add : (s : List ℕ) → Kept own (with_added w s (add own s a))
  unfolding add with_added put apply_to outstanding
  keeps_add s = unless_both (λ (t : Said × Active). Kept own (with_added w s t)) _ a _ new (λ r. v) where
    new : passes ((23, waiting a.out) ∷ (24, leb most a.sent) ∷ own s ++ ((14, no_room a.pool) ∷ [])) ≡ true
        → Kept own (with_added w s (done, record { pool = put s a.pool; sent = suc a.sent; out = adding (suc a.pool.added, s) }))
    new e =
        let free = passes_first 23 (waiting a.out) _ e in
        let o = not_waiting a.out free.0 in
        let fit = passes_both (own s) ((14, no_room a.pool) ∷ []) (passes_first 24 (leb most a.sent) _ free.1).1 in
        let free_room = (passes_first 14 (no_room a.pool) [] fit.1).0 in
        let x : ℕ × List ℕ = (suc a.pool.added, s) in
        let a' : Active = record { pool = put s a.pool; sent = suc a.sent; out = adding x } in
        record {
          r = v.r;
          near = record {
            sync = moves (adds (suc a.sent) x.0 s) o refl refl refl (fits_add own (suc a.sent) s a.pool fit.0 free_room) v.near.sync;
            whole = whole_put s free_room v.near.whole;
            entries = enters s fit.0 v.near.entries;
            handed_out = v.near.handed_out;
            among = all_map w.given (λ y i. inr i) v.near.among;
            pending = tt;
          };
          far = far_more (grows_behind w.entered_alone w.entered x) v.far;
          alone = v.alone;
          line = line_new o v.line;
        }

  keeps_take : Kept own (with_active w (take a))
  unfolding take with_active less apply_to outstanding
  keeps_take = unless_both (λ (t : Said × Active). Kept own (with_active w t)) _ a _ new (λ r. v) where
    new : passes ((23, waiting a.out) ∷ (24, leb most a.sent) ∷ (15, none_held a.pool.held) ∷ []) ≡ true
        → Kept own (with_active w (done, record { pool = less a.pool; sent = suc a.sent; out = taking (lowest a.pool.held) }))
    new e =
        let free = passes_first 23 (waiting a.out) _ e in
        let o = not_waiting a.out free.0 in
        let some = (passes_first 15 (none_held a.pool.held) [] (passes_first 24 (leb most a.sent) _ free.1).1).0 in
        let x : ℕ × List ℕ = lowest a.pool.held in
        let a' : Active = record { pool = less a.pool; sent = suc a.sent; out = taking x } in
        let c = whole_less some v.near.whole in
        let q = (quiet o v.near.sync).0 in
        record {
          r = v.r;
          near = record {
            sync = moves (takes (suc a.sent) x.0) o refl refl refl (fits_take own (suc a.sent) a.pool some) v.near.sync;
            whole = c.0;
            entries = v.near.entries;
            handed_out = v.near.handed_out;
            among = v.near.among;
            pending = (c.1, above x.0 (omega (arith, c.1, ap (λ (p : Pool). p.taken) q)) v.near.handed_out, c.2);
          };
          far = v.far;
          alone = v.alone;
          line = line_new o v.line;
        }

  -- an acknowledgement of what the standby has applied: where it counts, the two are level
  keeps_acknowledge : (k : ℕ) → k ≤ b.applied → Kept own (with_active w (acknowledge k a))
  unfolding acknowledge with_active
  keeps_acknowledge k h = choose_both (λ (t : Said × Active). Kept own (with_active w t)) (eqb k a.sent) _ (done, a) (λ t. counts (eqb-true k a.sent t)) (λ _. v) where
    closed : (o : Out) → a.pool.taken ≡ v.r.taken → Pending w.entered w.given a.pool.taken o
        → Numbered 0 v.r.taken (note_handed (settled o) w.given) × Among w.entered (note_handed (settled o) w.given)
    closed nothing e q = (v.near.handed_out, v.near.among)
    closed (adding x) e q = (v.near.handed_out, v.near.among)
    closed (taking x) e q = (numbered_next q.1 (omega arith) (omega (arith, q.0)) (omega arith) v.near.handed_out, (q.2, v.near.among))

    counts : k ≡ a.sent → Kept own (with_active w (settled a.out, record { pool = a.pool; sent = a.sent; out = nothing }))
    counts e =
        let q = followed (omega arith) v.near.sync in
        let c = closed a.out (ap (λ (p : Pool). p.taken) q.0) v.near.pending in
        record {
          r = v.r;
          near = record {
            sync = level q.0 q.1;
            whole = v.near.whole;
            entries = v.near.entries;
            handed_out = c.0;
            among = c.1;
            pending = tt;
          };
          far = v.far;
          alone = v.alone;
          line = record {
            messages = all_map w.link (λ m z. inl (⊎_elim (λ y. y) (λ y. omega (arith, numbered a m y, q.1)) z)) v.line.messages;
            answers = v.line.answers;
          };
        }

  keeps_send : Kept own (with_sent w (outstanding a))
  unfolding with_sent
  keeps_send = record {
    r = v.r;
    near = v.near;
    far = v.far;
    alone = v.alone;
    line = record { messages = all_append _ (outstanding a) w.link (all_map (outstanding a) (λ m. inr) (itself a)) v.line.messages; answers = v.line.answers };
  }

  -- a message that was sent: an old one, or the outstanding one, with which the standby is level
  keeps_receive : (m : Message) → (sequence m ≤ b.applied) ⊎ (outstanding a ≡ m ∷ []) → Kept own (with_standby w (receive own m b))
  unfolding receive with_standby
  keeps_receive m sent = unless_both (λ (t : Said × Standby). Kept own (with_standby w t)) _ b _ taken_in (λ r. v) where
    now : Standby
    now = record { pool = apply_to m b.pool; applied = sequence m; alone = b.alone }

    old : sequence m ≤ b.applied → Kept own (with_standby w (acknowledged (sequence m), b))
    old h = record { r = v.r; near = v.near; far = v.far; alone = v.alone; line = record { messages = v.line.messages; answers = (h, v.line.answers) } }

    level_now : b.alone ≡ false → sequence m ≡ suc b.applied → a.sent ≡ sequence m → a.pool ≡ apply_to m v.r → Kept own (with_standby w (acknowledged (sequence m), now))
    level_now here e f q =
        let same_pool : apply_to m b.pool ≡ a.pool = ap (apply_to m) (v.far.same here).0 ∙ sym q in
        let none : w.offered ≡ [] = (v.far.same here).1 in
        let further : v.r.taken ≤ a.pool.taken = rw q (apply_grows m v.r).0 in
        record {
          r = a.pool;
          near = record {
            sync = level refl f;
            whole = v.near.whole;
            entries = v.near.entries;
            handed_out = numbered_to further v.near.handed_out;
            among = v.near.among;
            pending = v.near.pending;
          };
          far = record {
            whole = rw same_pool (whole_more (grows_before w.entered_alone w.entered) v.near.whole);
            beyond = rw same_pool (omega arith);
            handed_out = rw none (record { upward = tt; between = tt });
            among = v.far.among;
            same = λ _. (same_pool, none);
          };
          alone = record { numbers = numbered_to (apply_grows m b.pool).1 v.alone.numbers; fit = v.alone.fit };
          line = record {
            messages = all_map w.link (λ x z. ⊎_elim (λ y. inl (omega arith)) inr z) v.line.messages;
            answers = (omega arith, all_map w.back (λ x y. omega arith) v.line.answers);
          };
        }

    new : b.alone ≡ false → b.applied < sequence m → Sync own v.r b.applied a → Kept own (with_standby w (acknowledged (sequence m), now))
    new here h (level f g) = absurd (⊎_elim (λ i. omega arith) (λ o. omega (arith, numbered a m o)) sent)
    new here h (ahead m' f g i x) = ⊎_elim (λ j. absurd (omega arith)) (λ o. let n = numbered a m o in let q : m' ≡ m = cc in level_now here (n ∙ i) (sym n) (rw q at g)) sent

    taken_in : passes ((16, not_applied own m b) ∷ []) ≡ true → Kept own (with_standby w (acknowledged (sequence m), cond (leb (sequence m) b.applied) b now))
    taken_in e = choose_both (λ (t : Standby). Kept own (with_standby w (acknowledged (sequence m), t))) (leb (sequence m) b.applied) b now
        (λ t. old (leb-true _ _ t)) (λ t. new (not_alone own m b (passes_first 16 _ [] e).0) (leb-false _ _ t) v.near.sync)

  -- the standby goes on alone, whether or not the active has lost its power
  keeps_cut : Kept own (with_standby w (done, go_alone b))
  unfolding with_standby go_alone
  keeps_cut = record {
    r = v.r;
    near = v.near;
    far = record { whole = v.far.whole; beyond = v.far.beyond; handed_out = v.far.handed_out; among = v.far.among; same = λ e. absurd (true_false e) };
    alone = v.alone;
    line = v.line;
  }

  -- alone: the pool p with l entered and o handed out
  lone : (l o : Strips) (p : Pool) → b.alone ≡ true → Whole (l ++ w.entered) p → b.pool.taken ≤ p.taken → Numbered (suc v.r.taken) p.taken o → Among (l ++ w.entered) o
      → Far v.r (l ++ w.entered) o (record { pool = p; applied = b.applied; alone = b.alone })
  lone l o p here c h n i = record { whole = c; beyond = omega (arith, v.far.beyond); handed_out = n; among = i; same = λ e. absurd (true_false (sym here ∙ e)) }

  keeps_add_alone : (s : List ℕ) → b.alone ≡ true → Kept own (added_alone w s (add_alone own s b.pool))
  unfolding add_alone added_alone with_alone put
  keeps_add_alone s here = unless_both (λ (t : Said × Pool). Kept own (added_alone w s t)) _ b.pool (done, put s b.pool) new (λ r. v) where
    x : ℕ × List ℕ
    x = (suc b.pool.added, s)

    new : passes (own s ++ ((14, no_room b.pool) ∷ [])) ≡ true → Kept own (added_alone w s (done, put s b.pool))
    new e =
        let fit = passes_both (own s) ((14, no_room b.pool) ∷ []) e in
        record {
          r = v.r;
          near = v.near;
          far = lone (x ∷ w.entered_alone) w.offered (put s b.pool) here (whole_put s (passes_first 14 (no_room b.pool) [] fit.1).0 v.far.whole) (omega arith) v.far.handed_out (all_map w.offered (λ y i. inr i) v.far.among);
          alone = enters s fit.0 v.alone;
          line = v.line;
        }

  keeps_take_alone : b.alone ≡ true → Kept own (with_alone w w.entered_alone (take_alone b.pool))
  unfolding take_alone with_alone less
  keeps_take_alone here = unless_both (λ (t : Said × Pool). Kept own (with_alone w w.entered_alone t)) _ b.pool _ new (λ r. v) where
    new : passes ((15, none_held b.pool.held) ∷ []) ≡ true → Kept own (with_alone w w.entered_alone (handed (lowest b.pool.held), less b.pool))
    new e =
        let x : ℕ × List ℕ = lowest b.pool.held in
        let c = whole_less (passes_first 15 (none_held b.pool.held) [] e).0 v.far.whole in
        let n : b.pool.taken < x.0 = omega (arith, c.1) in
        record {
          r = v.r;
          near = v.near;
          far = lone w.entered_alone (x ∷ w.offered) (less b.pool) here c.0 (omega arith)
              (numbered_next (above x.0 n v.far.handed_out) (omega (arith, v.far.beyond)) (omega (arith, c.1)) (omega arith) v.far.handed_out)
              (c.2, v.far.among);
          alone = v.alone;
          line = v.line;
        }

begins : (own : List ℕ → Checks) → Kept own start
unfolding start empty
begins own = record {
  r = empty;
  near = record { sync = level refl refl; whole = record { row = refl; few = omega arith; among = tt }; entries = record { numbers = record { upward = tt; between = tt }; fit = tt }; handed_out = record { upward = tt; between = tt }; among = tt; pending = tt };
  far = record { whole = record { row = refl; few = omega arith; among = tt }; beyond = omega arith; handed_out = record { upward = tt; between = tt }; among = tt; same = λ _. (refl, refl) };
  alone = record { numbers = record { upward = tt; between = tt }; fit = tt };
  line = record { messages = tt; answers = tt };
}

keeps : (own : List ℕ → Checks) (w : World) (e : Event) → Kept own w → Kept own (step (paper own) w e)
unfolding step paper arrived came
keeps own w (adds_strip s) v = keeps_add own w v s
keeps own w takes_strip v = keeps_take own w v
keeps own w sends v = keeps_send own w v
keeps own w (arrives k) v = go (at k w.link) (all_at _ k w.link v.line.messages) where
  go : (l : List Message) → All (λ m. (sequence m ≤ w.standby.applied) ⊎ (outstanding w.active ≡ m ∷ [])) l → Kept own (arrived (paper own) w l)
  go [] h = v
  go (m ∷ l) h = keeps_receive own w v m h.0
keeps own w (answered k) v = go (at k w.back) (all_at _ k w.back v.line.answers) where
  go : (l : List ℕ) → All (λ n. n ≤ w.standby.applied) l → Kept own (came (paper own) w l)
  go [] h = v
  go (n ∷ l) h = keeps_acknowledge own w v n h.0
keeps own w cuts v = keeps_cut own w v
keeps own w (adds_alone s) v = choose_both (Kept own) w.standby.alone _ w (keeps_add_alone own w v s) (λ _. v)
keeps own w takes_alone v = choose_both (Kept own) w.standby.alone _ w (keeps_take_alone own w v) (λ _. v)

pub kept : (own : List ℕ → Checks) (es : List Event) → Kept own (after (paper own) es)
unfolding after
kept own [] = begins own
kept own (e ∷ es) = keeps own (after (paper own) es) e (kept own es)
