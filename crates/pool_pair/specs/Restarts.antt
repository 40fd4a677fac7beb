-- The two cabinets with power failures and restarts: calls change the state and the rooms that lie in memory, and what leaves comes from stored ones. What is claimed of every run of them. Proved in proofs/Restarts.antt.
use Rattle.std.specs.Prelude.{ℕ, ◌≡◌, List, [], ◌∷◌, ◌++◌, false}
use Rattle.pool_mirror.specs.Mirror.{Strips, World, Event}
use Rattle.pool_mirror.specs.Claims.{Safe}
use Rattle.pool_mirror.specs.Restarts as mirror
use Rattle.pool_mirror.specs.Restarts.{Powered, store, remember, careful, Happening, does, stores_active, stores_standby, restarts_active, restarts_standby, at_once, Left, Still}
use Rattle.pool_state.specs.State.{no_state}
use Rattle.pool_pair.specs.Pair.{Cabinet, Cabinets, ran_step, begin, ran, stands_for}
use Rattle.pool_pair.specs.Claims.{rules, Answers, Free}

-- ---- the two sides, as in the system
pub record ActiveSide : Type 0 where
  pub active : Cabinet
  pub entered : Strips
  pub given : Strips

pub record StandbySide : Type 0 where
  pub standby : Cabinet
  pub back : List (List ℕ)
  pub entered_alone : Strips
  pub offered : Strips

unfoldable pub active_side : Cabinets → ActiveSide
active_side c = record { active = c.active; entered = c.entered; given = c.given }

unfoldable pub standby_side : Cabinets → StandbySide
standby_side c = record { standby = c.standby; back = c.back; entered_alone = c.entered_alone; offered = c.offered }

unfoldable pub cabinets : ActiveSide → StandbySide → List (List ℕ) → Cabinets
cabinets a b link = record { active = a.active; standby = b.standby; link = link; back = b.back; entered = a.entered; entered_alone = b.entered_alone; given = a.given; offered = b.offered }

pub record Pair : Type 0 where
  pub active : Powered ActiveSide
  pub standby : Powered StandbySide
  pub link : List (List ℕ)

-- ---- the same happenings, by calls; a restart finds the state and the rooms that were stored last
unfoldable pub happen : Pair → Happening → Pair
happen p (does e) = record {
  active = remember p.active (active_side (ran_step (cabinets p.active.memory p.standby.stored p.link) e));
  standby = remember p.standby (standby_side (ran_step (cabinets p.active.stored p.standby.memory p.link) e));
  link = (ran_step (cabinets p.active.stored p.standby.stored p.link) e).link;
}
happen p stores_active = record { active = store p.active; standby = p.standby; link = p.link }
happen p stores_standby = record { active = p.active; standby = store p.standby; link = p.link }
happen p restarts_active = record { active = remember p.active p.active.stored; standby = p.standby; link = p.link }
happen p restarts_standby = record { active = p.active; standby = remember p.standby p.standby.stored; link = p.link }

unfoldable pub at_rest : Cabinets → Pair
at_rest c = record { active = record { memory = active_side c; stored = active_side c }; standby = record { memory = standby_side c; stored = standby_side c }; link = c.link }

unfoldable pub lived : List Happening → Pair
lived [] = at_rest begin
lived (h ∷ hs) = happen (lived hs) h

-- both cabinets as they run; and as they would start again, with what has left them
unfoldable pub now : Pair → Cabinets
now p = cabinets p.active.memory p.standby.memory p.link

unfoldable pub again : Pair → Cabinets
again p = cabinets p.active.stored p.standby.stored p.link

-- ---- the claims: all that is claimed of cabinets without failures, at every moment, of those in memory and of those stored
pub record Holds (c : Cabinets) (w : World) : Type 0 where
  -- byte for byte they are what a run without failures comes to
  pub unnoticed : (es : List Event) × (c ≡ ran es)
  -- and they stand for the world of the system with restarts
  pub lifted : stands_for c ≡ w
  pub safely : Safe rules (stands_for c)
  -- each call says what the system's rule says
  pub answered : Answers c (stands_for c)
  pub free_rooms : Free c.active × Free c.standby
  pub unrefused : (no_state c.active.state ≡ false) × (no_state c.standby.state ≡ false)

abbrev pub Restarts : Type 0
Restarts = (hs : List Happening) → Holds (now (lived hs)) (mirror.now (mirror.lived careful rules hs)) × Holds (again (lived hs)) (mirror.again (mirror.lived careful rules hs))

-- cabinets without failures are these with all stored at once
abbrev pub AtOnce : Type 0
AtOnce = (es : List Event) → now (lived (at_once es)) ≡ ran es

-- what has left is never taken back, byte for byte
unfoldable pub left : Cabinets → Left (List ℕ) (List ℕ)
left c = record { messages = c.link; acknowledgements = c.back; given = c.given; offered = c.offered }

abbrev pub Stays : Type 0
Stays = (hs more : List Happening) → Still (left (again (lived hs))) (left (again (lived (more ++ hs))))
