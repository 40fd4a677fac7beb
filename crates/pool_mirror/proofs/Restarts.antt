-- That power failures go unnoticed, whatever the rules of the masters are: what is stored and what has left is a run of the system without failures, and so is what is in memory, since what was done since the storing can be done again. Hence the safety theorem. Assumes nothing.
use Prim.Native.Nat.{ℕ}
use mathlib.Core.Path.{◌≡◌, refl, sym, subst, ap}
use mathlib.Core.List.{List, [], ◌∷◌, ◌++◌}
use mathlib.Core.Bool.{Bool, true, false, cond}
use Rattle.pool_mirror.specs.Mirror.{Strips, Said, done, handed, acknowledged, refused, Message, Rules, paper, World, Event, adds_strip, takes_strip, sends, arrives, answered, cuts, adds_alone, takes_alone, at, note_handed, note_acknowledged, outstanding, with_active, with_added, with_sent, with_standby, with_alone, arrived, came, added_alone, step, start, after}
use Rattle.pool_mirror.specs.Claims.{Safe}
use Rattle.pool_mirror.specs.Restarts.{ActiveSide, StandbySide, active_side, standby_side, world, Masters, careful, Happening, does, stores_active, stores_standby, restarts_active, restarts_standby, doing, active_again, standby_again, happen, at_rest, lived, now, again, Reached, at_once, Left, Ends, Still, left}
use Rattle.pool_mirror.specs.Restarts as claims
use Rattle.pool_mirror.proofs.Pools.{choose_both}
use Rattle.pool_mirror.proofs.Claims.{safety}
use Rattle.pool_mirror.proofs.Redone.{ends, ends_after, still_there, Redone, redone, active_stored, standby_stored, active_restarted, standby_restarted, memory_reached}

-- ---- what is handed out and acknowledged comes before what was
pub ends_handed : (said : Said) (l : Strips) → Ends l (note_handed said l)
ends_handed done l = ends l
ends_handed (handed x) l = (x ∷ [], refl)
ends_handed (acknowledged k) l = ends l
ends_handed (refused r) l = ends l

ends_acknowledged : (said : Said) (l : List ℕ) → Ends l (note_acknowledged said l)
ends_acknowledged done l = ends l
ends_acknowledged (handed x) l = ends l
ends_acknowledged (acknowledged k) l = (k ∷ [], refl)
ends_acknowledged (refused r) l = ends l

-- ---- what has left is there still
pub still : {Sent Back : Type 0} (l : Left Sent Back) → Still l l
still l = record { messages = ends _; acknowledgements = ends _; given = ends _; offered = ends _ }

pub still_after : {Sent Back : Type 0} {k l m : Left Sent Back} → Still k l → Still l m → Still k m
still_after f g = record {
  messages = ends_after f.messages g.messages;
  acknowledgements = ends_after f.acknowledgements g.acknowledgements;
  given = ends_after f.given g.given;
  offered = ends_after f.offered g.offered;
}

module _ (rules : Rules) where
  reached : (w : World) (e : Event) → Reached rules w → Reached rules (step rules w e)
  unfolding after
  reached w e r = (e ∷ r.0, ap (λ w. step rules w e) r.1)

  -- ---- what the active does it can do with any other standby side that has sent back as much, and whatever is on the link
  module _ (a : ActiveSide) (b b' : StandbySide) (link link' : List Message) where
    active_does : (e : Event) → Ends b.back b'.back → Reached rules (world a b' link') → Reached rules (world (active_side (step rules (world a b link) e)) b' link')
    unfolding step world active_side with_active with_added with_sent with_standby with_alone arrived came added_alone
    active_does (adds_strip s) f r = reached (world a b' link') (adds_strip s) r
    active_does takes_strip f r = reached (world a b' link') takes_strip r
    active_does sends f r = r
    active_does (arrives k) f r = go (at k link) where
      go : (l : List Message) → Reached rules (world (active_side (arrived rules (world a b link) l)) b' link')
      go [] = r
      go (m ∷ l) = r
    active_does (answered k) f r =
        let h = still_there k f in
        go (at k b.back) (subst (λ l. Reached rules (came rules (world a b' link') l)) h.1 (reached (world a b' link') (answered h.0) r)) where
          go : (l : List ℕ) → Reached rules (came rules (world a b' link') l) → Reached rules (world (active_side (came rules (world a b link) l)) b' link')
          go [] q = q
          go (n ∷ l) q = q
    active_does cuts f r = r
    active_does (adds_alone s) f r = choose_both (λ (w : World). Reached rules (world (active_side w) b' link')) b.standby.alone _ (world a b link) (λ t. r) (λ t. r)
    active_does takes_alone f r = choose_both (λ (w : World). Reached rules (world (active_side w) b' link')) b.standby.alone _ (world a b link) (λ t. r) (λ t. r)

  -- ---- what the standby does it can do with any other active side, where as much was sent
  module _ (a a' : ActiveSide) (b : StandbySide) (link link' : List Message) where
    standby_does : (e : Event) → Ends link link' → Reached rules (world a' b link') → Reached rules (world a' (standby_side (step rules (world a b link) e)) link')
    unfolding step world standby_side with_active with_added with_sent with_standby with_alone arrived came added_alone
    standby_does (adds_strip s) f r = r
    standby_does takes_strip f r = r
    standby_does sends f r = r
    standby_does (arrives k) f r =
        let h = still_there k f in
        go (at k link) (subst (λ l. Reached rules (arrived rules (world a' b link') l)) h.1 (reached (world a' b link') (arrives h.0) r)) where
          go : (l : List Message) → Reached rules (arrived rules (world a' b link') l) → Reached rules (world a' (standby_side (arrived rules (world a b link) l)) link')
          go [] q = q
          go (m ∷ l) q = q
    standby_does (answered k) f r = go (at k b.back) where
      go : (l : List ℕ) → Reached rules (world a' (standby_side (came rules (world a b link) l)) link')
      go [] = r
      go (n ∷ l) = r
    standby_does cuts f r = reached (world a' b link') cuts r
    standby_does (adds_alone s) f r = go b.standby.alone (reached (world a' b link') (adds_alone s) r) where
      go : (t : Bool) → Reached rules (cond t (added_alone (world a' b link') s (rules.on_add_alone s b.standby.pool)) (world a' b link'))
          → Reached rules (world a' (standby_side (cond t (added_alone (world a b link) s (rules.on_add_alone s b.standby.pool)) (world a b link))) link')
      go true q = q
      go false q = q
    standby_does takes_alone f r = go b.standby.alone (reached (world a' b link') takes_alone r) where
      go : (t : Bool) → Reached rules (cond t (with_alone (world a' b link') b.entered_alone (rules.on_take_alone b.standby.pool)) (world a' b link'))
          → Reached rules (world a' (standby_side (cond t (with_alone (world a b link) b.entered_alone (rules.on_take_alone b.standby.pool)) (world a b link))) link')
      go true q = q
      go false q = q

  -- ---- what is sent can be sent without doing anything else
  module _ (a : ActiveSide) (b : StandbySide) (link : List Message) where
    link_does : (e : Event) → Reached rules (world a b link) → Reached rules (world a b (step rules (world a b link) e).link)
    unfolding step world with_active with_added with_sent with_standby with_alone arrived came added_alone
    link_does (adds_strip s) r = r
    link_does takes_strip r = r
    link_does sends r = reached (world a b link) sends r
    link_does (arrives k) r = go (at k link) where
      go : (l : List Message) → Reached rules (world a b (arrived rules (world a b link) l).link)
      go [] = r
      go (m ∷ l) = r
    link_does (answered k) r = go (at k b.back) where
      go : (l : List ℕ) → Reached rules (world a b (came rules (world a b link) l).link)
      go [] = r
      go (n ∷ l) = r
    link_does cuts r = r
    link_does (adds_alone s) r = choose_both (λ (w : World). Reached rules (world a b w.link)) b.standby.alone _ (world a b link) (λ t. r) (λ t. r)
    link_does takes_alone r = choose_both (λ (w : World). Reached rules (world a b w.link)) b.standby.alone _ (world a b link) (λ t. r) (λ t. r)

  -- ---- no event takes anything back
  grows : (w : World) (e : Event) → Still (left w) (left (step rules w e))
  unfolding left step with_active with_added with_sent with_standby with_alone arrived came added_alone
  grows w (adds_strip s) = still (left w)
  grows w takes_strip = record { messages = ends _; acknowledgements = ends _; given = ends_handed (rules.on_take w.active).0 w.given; offered = ends _ }
  grows w sends = record { messages = (outstanding w.active, refl); acknowledgements = ends _; given = ends _; offered = ends _ }
  grows w (arrives k) = go (at k w.link) where
    go : (l : List Message) → Still (left w) (left (arrived rules w l))
    go [] = still (left w)
    go (m ∷ l) = record { messages = ends _; acknowledgements = ends_acknowledged (rules.on_message m w.standby).0 w.back; given = ends _; offered = ends _ }
  grows w (answered k) = go (at k w.back) where
    go : (l : List ℕ) → Still (left w) (left (came rules w l))
    go [] = still (left w)
    go (n ∷ l) = record { messages = ends _; acknowledgements = ends _; given = ends_handed (rules.on_acknowledgement n w.active).0 w.given; offered = ends _ }
  grows w cuts = still (left w)
  grows w (adds_alone s) = choose_both (λ (x : World). Still (left w) (left x)) w.standby.alone _ w (λ t. record { messages = ends _; acknowledgements = ends _; given = ends _; offered = ends_handed (rules.on_add_alone s w.standby.pool).0 w.offered }) (λ t. still (left w))
  grows w takes_alone = choose_both (λ (x : World). Still (left w) (left x)) w.standby.alone _ w (λ t. record { messages = ends _; acknowledgements = ends _; given = ends _; offered = ends_handed (rules.on_take_alone w.standby.pool).0 w.offered }) (λ t. still (left w))

  -- ---- what is kept: what is in memory can be done again, and has all that has left
  abbrev Redoes : Masters → Type 0
  Redoes c = Redone ActiveSide StandbySide Message ℕ (λ (b : StandbySide). b.back) (λ a b link. Reached rules (world a b link)) c.active c.standby c.link

  record Kept (c : Masters) : Type 0 where
    memory : Redoes c
    ahead : Still (left (again c)) (left (now c))

  redoes : (c : Masters) (h : Happening) → Redoes c → Redoes (happen careful rules c h)
  unfolding again happen doing careful active_again standby_again active_side standby_side world left
  redoes c (does e) v =
      redone _ _ _ _ _ _ c.active c.standby c.link v _ _ _
      (λ b link f r. active_does c.active.memory c.standby.stored b c.link link e f r)
      (λ a link f r. standby_does c.active.stored a c.standby.memory c.link link e f r)
      (link_does c.active.stored c.standby.stored c.link e)
      (grows (again c) e).messages
      (grows (world c.active.stored c.standby.memory c.link) e).acknowledgements
  redoes c stores_active v = active_stored _ _ _ _ _ _ c.active c.standby c.link v
  redoes c stores_standby v = standby_stored _ _ _ _ _ _ c.active c.standby c.link v
  redoes c restarts_active v = active_restarted _ _ _ _ _ _ c.active c.standby c.link v
  redoes c restarts_standby v = standby_restarted _ _ _ _ _ _ c.active c.standby c.link v

  goes_ahead : (c : Masters) (h : Happening) → Still (left (again c)) (left (now c)) → Still (left (again (happen careful rules c h))) (left (now (happen careful rules c h)))
  unfolding now again left happen doing careful active_again standby_again active_side standby_side world
  goes_ahead c (does e) v =
      let at_active = grows (world c.active.memory c.standby.stored c.link) e in
      let at_standby = grows (world c.active.stored c.standby.memory c.link) e in
      record { messages = ends _; acknowledgements = ends_after v.acknowledgements at_standby.acknowledgements; given = ends_after v.given at_active.given; offered = ends_after v.offered at_standby.offered }
  goes_ahead c stores_active v = record { messages = ends _; acknowledgements = v.acknowledgements; given = ends _; offered = v.offered }
  goes_ahead c stores_standby v = record { messages = ends _; acknowledgements = ends _; given = v.given; offered = ends _ }
  goes_ahead c restarts_active v = record { messages = ends _; acknowledgements = v.acknowledgements; given = ends _; offered = v.offered }
  goes_ahead c restarts_standby v = record { messages = ends _; acknowledgements = ends _; given = v.given; offered = ends _ }

  kept : (hs : List Happening) → Kept (lived careful rules hs)
  unfolding now again lived at_rest world active_side standby_side start after
  kept [] = record { memory = record { stored = ([], refl); active = λ b link f r. r; standby = λ a link f r. r; heard = ends _ }; ahead = still _ }
  kept (h ∷ hs) = let v = kept hs in record { memory = redoes (lived careful rules hs) h v.memory; ahead = goes_ahead (lived careful rules hs) h v.ahead }

pub unnoticed : claims.Unnoticed
unfolding now again
unnoticed rules hs =
    let c = lived careful rules hs in
    let v = (kept rules hs).memory in
    (memory_reached _ _ _ _ _ _ c.active c.standby c.link v, v.stored)

pub safely : claims.Safety
safely own hs = let u = unnoticed (paper own) hs in (safe u.0, safe u.1) where
  safe : {w : World} → Reached (paper own) w → Safe (paper own) w
  safe r = subst (Safe (paper own)) (sym r.1) (safety own r.0)

-- ---- what has left stays outside: by one happening, and so by any number
module _ (rules : Rules) (c : Masters) (v : Kept rules c) where
  stays_once : (h : Happening) → Still (left (again c)) (left (again (happen careful rules c h)))
  unfolding now again left happen doing careful active_again standby_again active_side standby_side world
  stays_once (does e) = record { messages = (grows rules (again c) e).messages; acknowledgements = ends _; given = ends _; offered = ends _ }
  stays_once stores_active = record { messages = ends _; acknowledgements = ends _; given = v.ahead.given; offered = ends _ }
  stays_once stores_standby = record { messages = ends _; acknowledgements = v.ahead.acknowledgements; given = ends _; offered = v.ahead.offered }
  stays_once restarts_active = still (left (again c))
  stays_once restarts_standby = still (left (again c))

pub stays : claims.Stays
unfolding lived
stays rules hs [] = still _
stays rules hs (h ∷ more) = still_after (stays rules hs more) (stays_once rules (lived careful rules (more ++ hs)) (kept rules (more ++ hs)) h)

-- ---- all stored at once
pub at_once_law : claims.AtOnce
unfolding now lived at_rest world active_side standby_side start after happen doing careful
at_once_law rules es = ap now (go es) where
  go : (es : List Event) → lived careful rules (at_once es) ≡ at_rest (after rules es)
  go [] = refl
  go (e ∷ es) = ap (λ c. happen careful rules (happen careful rules (happen careful rules c (does e)) stores_active) stores_standby) (go es)
