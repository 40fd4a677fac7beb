-- The claims on cabinets with restarts, from what one event does to each side and to the link: what was done since the last store can be done again, and each event is the system's. Assumes nothing.
use Prim.Native.Nat.{ℕ, ◌+◌}
use mathlib.Core.Path.{◌≡◌, refl, sym, subst, ap, ◌∙◌}
use mathlib.Core.List.{List, [], ◌∷◌, ◌++◌}
use mathlib.Core.Bool.{false}
use lib.ListN.{length}
use Rattle.pool_mirror.specs.Mirror as mirror
use Rattle.pool_mirror.specs.Mirror.{World, Event, adds_strip, takes_strip, sends, arrives, answered, cuts, adds_alone, takes_alone, at}
use Rattle.pool_mirror.specs.Claims.{Safe}
use Rattle.pool_mirror.specs.Restarts as system
use Rattle.pool_mirror.specs.Restarts.{careful, Happening, does, stores_active, stores_standby, restarts_active, restarts_standby, at_once, Ends, Still}
use Rattle.pool_mirror.proofs.Redone.{ends, ends_after, still_there, Redone, redone, active_stored, standby_stored, active_restarted, standby_restarted, memory_reached}
use Rattle.pool_mirror.proofs.Restarts.{ends_handed, still, still_after}
use Rattle.pool_state.specs.State.{state_in, no_state}
use Rattle.pool_pair.specs.Pair.{Cabinets, take_out, acknowledge, apply_at, outstanding, sent_back, with_active, with_added, with_sent, with_standby, with_added_alone, with_taken_alone, arrived, came, ran_step, ran, active_in, standby_in, messages_in, numbers_in, stands_for}
use Rattle.pool_pair.specs.Claims.{rules, Answers, Free}
use Rattle.pool_pair.specs.Restarts.{ActiveSide, StandbySide, active_side, standby_side, cabinets, Pair, happen, at_rest, lived, now, again, Holds, left}
use Rattle.pool_pair.specs.Restarts as claims
use Rattle.pool_pair.proofs.Run.{Runs, lifts, begins}
use Rattle.pool_pair.proofs.Claims as without

-- ---- what each side stands for
unfoldable active_stands : ActiveSide → system.ActiveSide
active_stands a = record { active = active_in (state_in a.active.state) a.active.rooms; entered = a.entered; given = a.given }

unfoldable standby_stands : StandbySide → system.StandbySide
standby_stands b = record {
  standby = standby_in (state_in b.standby.state) b.standby.rooms (length b.entered_alone + length b.offered);
  back = numbers_in b.back;
  entered_alone = b.entered_alone;
  offered = b.offered;
}

unfoldable stands : Pair → system.Masters
stands p = record {
  active = record { memory = active_stands p.active.memory; stored = active_stands p.active.stored };
  standby = record { memory = standby_stands p.standby.memory; stored = standby_stands p.standby.stored };
  link = messages_in p.link;
}

-- ---- what is kept: both cabinets are sound, in memory and stored
record Lives (p : Pair) : Type 0 where
  memory : Runs (now p)
  stored : Runs (again p)

-- an active side and a standby side of sound cabinets make sound cabinets
mixed : (a a' : ActiveSide) (b b' : StandbySide) (link : List (List ℕ)) → Runs (cabinets a b link) → Runs (cabinets a' b' link) → Runs (cabinets a b' link)
unfolding cabinets
mixed a a' b b' link v w = record { near = v.near; far = w.far; link = v.link; back = w.back }

of_three : {a a' s : system.ActiveSide} {b b' t : system.StandbySide} {l l' : List mirror.Message} → a ≡ a' → b ≡ b' → l ≡ l'
    → ◌≡◌ {A = system.Masters} (record { active = record { memory = a; stored = s }; standby = record { memory = b; stored = t }; link = l })
    (record { active = record { memory = a'; stored = s }; standby = record { memory = b'; stored = t }; link = l' })
of_three e f g = rw (e, f, g) refl

active_from : (p : Pair) → Lives p → Runs (cabinets p.active.memory p.standby.stored p.link)
unfolding now again
active_from p v = mixed p.active.memory p.active.stored p.standby.memory p.standby.stored p.link v.memory v.stored

standby_from : (p : Pair) → Lives p → Runs (cabinets p.active.stored p.standby.memory p.link)
unfolding now again
standby_from p v = mixed p.active.stored p.active.memory p.standby.stored p.standby.memory p.link v.stored v.memory

lives : (p : Pair) → Lives p → (h : Happening) → (stands (happen p h) ≡ system.happen careful rules (stands p) h) × Lives (happen p h)
unfolding now again happen system.happen system.doing careful system.active_again system.standby_again stands active_stands standby_stands active_side standby_side cabinets system.active_side system.standby_side system.world stands_for
lives p v (does e) =
    let f = lifts (cabinets p.active.memory p.standby.stored p.link) (active_from p v) e in
    let g = lifts (cabinets p.active.stored p.standby.memory p.link) (standby_from p v) e in
    let h = lifts (again p) v.stored e in (
      of_three (ap system.active_side f.0) (ap system.standby_side g.0) (ap (λ (w : World). w.link) h.0),
      record {
        memory = record { near = f.1.near; far = g.1.far; link = h.1.link; back = g.1.back };
        stored = record { near = v.stored.near; far = v.stored.far; link = h.1.link; back = v.stored.back };
      },
    )
lives p v stores_active = (refl, record { memory = v.memory; stored = active_from p v })
lives p v stores_standby = (refl, record { memory = v.memory; stored = standby_from p v })
lives p v restarts_active = (refl, record { memory = standby_from p v; stored = v.stored })
lives p v restarts_standby = (refl, record { memory = active_from p v; stored = v.stored })

all_lives : (hs : List Happening) → (stands (lived hs) ≡ system.lived careful rules hs) × Lives (lived hs)
unfolding now again cabinets lived system.lived at_rest system.at_rest stands active_stands standby_stands active_side standby_side system.active_side system.standby_side stands_for
all_lives [] = (ap system.at_rest begins.0, record { memory = begins.1; stored = begins.1 })
all_lives (h ∷ hs) =
    let q = all_lives hs in
    let f = lives (lived hs) q.1 h in
    (f.0 ∙ ap (λ (c : system.Masters). system.happen careful rules c h) q.0, f.1)

-- ---- each side can do again what it did, with any other side from which as much has left
abbrev Reached : Cabinets → Type 0
Reached c = (es : List Event) × (c ≡ ran es)

reached : (c : Cabinets) (e : Event) → Reached c → Reached (ran_step c e)
unfolding ran
reached c e r = (e ∷ r.0, ap (λ c. ran_step c e) r.1)

module _ (a : ActiveSide) (b b' : StandbySide) (link link' : List (List ℕ)) where
  active_does : (e : Event) → Ends b.back b'.back → Reached (cabinets a b' link') → Reached (cabinets (active_side (ran_step (cabinets a b link) e)) b' link')
  unfolding ran_step cabinets active_side with_active with_added with_sent with_standby with_added_alone with_taken_alone arrived came
  active_does (adds_strip s) f r = reached (cabinets a b' link') (adds_strip s) r
  active_does takes_strip f r = reached (cabinets a b' link') takes_strip r
  active_does sends f r = r
  active_does (arrives k) f r = go (at k link) where
    go : (l : List (List ℕ)) → Reached (cabinets (active_side (arrived (cabinets a b link) l)) b' link')
    go [] = r
    go (bytes ∷ l) = r
  active_does (answered k) f r =
      let h = still_there k f in
      go (at k b.back) (subst (λ l. Reached (came (cabinets a b' link') l)) h.1 (reached (cabinets a b' link') (answered h.0) r)) where
        go : (l : List (List ℕ)) → Reached (came (cabinets a b' link') l) → Reached (cabinets (active_side (came (cabinets a b link) l)) b' link')
        go [] q = q
        go (bytes ∷ l) q = q
  active_does cuts f r = r
  active_does (adds_alone s) f r = r
  active_does takes_alone f r = r

module _ (a a' : ActiveSide) (b : StandbySide) (link link' : List (List ℕ)) where
  standby_does : (e : Event) → Ends link link' → Reached (cabinets a' b link') → Reached (cabinets a' (standby_side (ran_step (cabinets a b link) e)) link')
  unfolding ran_step cabinets standby_side with_active with_added with_sent with_standby with_added_alone with_taken_alone arrived came
  standby_does (adds_strip s) f r = r
  standby_does takes_strip f r = r
  standby_does sends f r = r
  standby_does (arrives k) f r =
      let h = still_there k f in
      go (at k link) (subst (λ l. Reached (arrived (cabinets a' b link') l)) h.1 (reached (cabinets a' b link') (arrives h.0) r)) where
        go : (l : List (List ℕ)) → Reached (arrived (cabinets a' b link') l) → Reached (cabinets a' (standby_side (arrived (cabinets a b link) l)) link')
        go [] q = q
        go (bytes ∷ l) q = q
  standby_does (answered k) f r = go (at k b.back) where
    go : (l : List (List ℕ)) → Reached (cabinets a' (standby_side (came (cabinets a b link) l)) link')
    go [] = r
    go (bytes ∷ l) = r
  standby_does cuts f r = reached (cabinets a' b link') cuts r
  standby_does (adds_alone s) f r = reached (cabinets a' b link') (adds_alone s) r
  standby_does takes_alone f r = reached (cabinets a' b link') takes_alone r

module _ (a : ActiveSide) (b : StandbySide) (link : List (List ℕ)) where
  link_does : (e : Event) → Reached (cabinets a b link) → Reached (cabinets a b (ran_step (cabinets a b link) e).link)
  unfolding ran_step cabinets with_active with_added with_sent with_standby with_added_alone with_taken_alone arrived came
  link_does (adds_strip s) r = r
  link_does takes_strip r = r
  link_does sends r = reached (cabinets a b link) sends r
  link_does (arrives k) r = go (at k link) where
    go : (l : List (List ℕ)) → Reached (cabinets a b (arrived (cabinets a b link) l).link)
    go [] = r
    go (bytes ∷ l) = r
  link_does (answered k) r = go (at k b.back) where
    go : (l : List (List ℕ)) → Reached (cabinets a b (came (cabinets a b link) l).link)
    go [] = r
    go (bytes ∷ l) = r
  link_does cuts r = r
  link_does (adds_alone s) r = r
  link_does takes_alone r = r

-- ---- no event takes anything back
grows : (c : Cabinets) (e : Event) → Still (left c) (left (ran_step c e))
unfolding left ran_step with_active with_added with_sent with_standby with_added_alone with_taken_alone arrived came
grows c (adds_strip s) = still (left c)
grows c takes_strip = record { messages = ends _; acknowledgements = ends _; given = ends_handed (take_out c.active).0 c.given; offered = ends _ }
grows c sends = record { messages = (outstanding c.active, refl); acknowledgements = ends _; given = ends _; offered = ends _ }
grows c (arrives k) = go (at k c.link) where
  go : (l : List (List ℕ)) → Still (left c) (left (arrived c l))
  go [] = still (left c)
  go (bytes ∷ l) = record { messages = ends _; acknowledgements = (sent_back (apply_at bytes c.standby), refl); given = ends _; offered = ends _ }
grows c (answered k) = go (at k c.back) where
  go : (l : List (List ℕ)) → Still (left c) (left (came c l))
  go [] = still (left c)
  go (bytes ∷ l) = record { messages = ends _; acknowledgements = ends _; given = ends_handed (acknowledge bytes c.active).0 c.given; offered = ends _ }
grows c cuts = still (left c)
grows c (adds_alone s) = still (left c)
grows c takes_alone = record { messages = ends _; acknowledgements = ends _; given = ends _; offered = ends_handed (take_out c.standby).0 c.offered }

-- ---- and so what is in memory can be done again
abbrev Redoes : Pair → Type 0
Redoes p = Redone ActiveSide StandbySide (List ℕ) (List ℕ) (λ (b : StandbySide). b.back) (λ a b link. Reached (cabinets a b link)) p.active p.standby p.link

redoes : (p : Pair) (h : Happening) → Redoes p → Redoes (happen p h)
unfolding again happen active_side standby_side cabinets left
redoes p (does e) v =
    redone _ _ _ _ _ _ p.active p.standby p.link v _ _ _
    (λ b link f r. active_does p.active.memory p.standby.stored b p.link link e f r)
    (λ a link f r. standby_does p.active.stored a p.standby.memory p.link link e f r)
    (link_does p.active.stored p.standby.stored p.link e)
    (grows (again p) e).messages
    (grows (cabinets p.active.stored p.standby.memory p.link) e).acknowledgements
redoes p stores_active v = active_stored _ _ _ _ _ _ p.active p.standby p.link v
redoes p stores_standby v = standby_stored _ _ _ _ _ _ p.active p.standby p.link v
redoes p restarts_active v = active_restarted _ _ _ _ _ _ p.active p.standby p.link v
redoes p restarts_standby v = standby_restarted _ _ _ _ _ _ p.active p.standby p.link v

all_redoes : (hs : List Happening) → Redoes (lived hs)
unfolding lived at_rest active_side standby_side cabinets ran
all_redoes [] = record { stored = ([], refl); active = λ b link f r. r; standby = λ a link f r. r; heard = ends _ }
all_redoes (h ∷ hs) = redoes (lived hs) h (all_redoes hs)

-- ---- the claims
holds : {c : Cabinets} {w : World} → Reached c → stands_for c ≡ w → Holds c w
holds {c} r e = record {
  unnoticed = r;
  lifted = e;
  safely = too (λ c. Safe rules (stands_for c)) (without.safely r.0);
  answered = too (λ c. Answers c (stands_for c)) (subst (Answers (ran r.0)) (sym (without.lifted r.0)) (without.answered r.0));
  free_rooms = too (λ c. Free c.active × Free c.standby) (without.free_rooms r.0);
  unrefused = too (λ c. (no_state c.active.state ≡ false) × (no_state c.standby.state ≡ false)) (without.unrefused r.0);
} where
  -- what holds of cabinets without failures holds of these
  too : (P : Cabinets → Type 0) → P (ran r.0) → P c
  too P h = subst P (sym r.1) h

pub restarts : claims.Restarts
unfolding now again cabinets stands active_stands standby_stands system.now system.again system.world stands_for
restarts hs =
    let e = (all_lives hs).0 in
    let p = lived hs in
    let r = all_redoes hs in
    (holds (memory_reached _ _ _ _ _ _ p.active p.standby p.link r) (ap system.now e), holds r.stored (ap system.again e))

pub at_once_law : claims.AtOnce
unfolding now lived happen at_rest ran active_side standby_side cabinets
at_once_law es = ap now (go es) where
  go : (es : List Event) → lived (at_once es) ≡ at_rest (ran es)
  go [] = refl
  go (e ∷ es) = ap (λ p. happen (happen (happen p (does e)) stores_active) stores_standby) (go es)

-- ---- what has left stays outside
-- what is in memory has all that has left
abbrev Ahead : Pair → Type 0
Ahead p = Still (left (again p)) (left (now p))

goes_ahead : (p : Pair) → Ahead p → (h : Happening) → Ahead (happen p h)
unfolding now again left happen active_side standby_side cabinets
goes_ahead p v (does e) =
    let f = grows (cabinets p.active.memory p.standby.stored p.link) e in
    let g = grows (cabinets p.active.stored p.standby.memory p.link) e in
    record { messages = ends _; acknowledgements = ends_after v.acknowledgements g.acknowledgements; given = ends_after v.given f.given; offered = ends_after v.offered g.offered }
goes_ahead p v stores_active = record { messages = ends _; acknowledgements = v.acknowledgements; given = ends _; offered = v.offered }
goes_ahead p v stores_standby = record { messages = ends _; acknowledgements = ends _; given = v.given; offered = ends _ }
goes_ahead p v restarts_active = record { messages = ends _; acknowledgements = v.acknowledgements; given = ends _; offered = v.offered }
goes_ahead p v restarts_standby = record { messages = ends _; acknowledgements = ends _; given = v.given; offered = ends _ }

ahead : (hs : List Happening) → Ahead (lived hs)
unfolding now again lived at_rest cabinets
ahead [] = still _
ahead (h ∷ hs) = goes_ahead (lived hs) (ahead hs) h

stays_once : (p : Pair) → Ahead p → (h : Happening) → Still (left (again p)) (left (again (happen p h)))
unfolding now again left happen cabinets
stays_once p v (does e) = record { messages = (grows (again p) e).messages; acknowledgements = ends _; given = ends _; offered = ends _ }
stays_once p v stores_active = record { messages = ends _; acknowledgements = ends _; given = v.given; offered = ends _ }
stays_once p v stores_standby = record { messages = ends _; acknowledgements = v.acknowledgements; given = ends _; offered = v.offered }
stays_once p v restarts_active = still (left (again p))
stays_once p v restarts_standby = still (left (again p))

pub stays : claims.Stays
unfolding lived
stays hs [] = still _
stays hs (h ∷ more) = still_after (stays hs more) (stays_once (lived (more ++ hs)) (ahead (more ++ hs)) h)
