-- Both masters with power failures and restarts, the rule for their hosts, and what is claimed of every run in which it is kept. Proved in proofs/Restarts.antt.
-- The rule, 7.11: nothing leaves a cabinet, be it a message, an acknowledgement or a strip, before the state and the rooms that it comes from are stored.
-- A call changes what a master has in memory. Its host stores that now and then, all of it or nothing; a master whose power fails starts again from what was stored last, at any moment and any number of times.
use Rattle.std.specs.Prelude.{ℕ, ◌≡◌, List, [], ◌∷◌, ◌++◌, Bool, true, cond}
use Rattle.pool_mirror.specs.Mirror.{Strips, Checks, Active, Message, Standby, Rules, paper, World, Event, step, start, after}
use Rattle.pool_mirror.specs.Claims.{Safe}

-- ---- the two sides of a world: each master, with what its calls have taken in, said and handed out
pub record ActiveSide : Type 0 where
  pub active : Active
  pub entered : Strips
  pub given : Strips

pub record StandbySide : Type 0 where
  pub standby : Standby
  pub back : List ℕ
  pub entered_alone : Strips
  pub offered : Strips

unfoldable pub active_side : World → ActiveSide
active_side w = record { active = w.active; entered = w.entered; given = w.given }

unfoldable pub standby_side : World → StandbySide
standby_side w = record { standby = w.standby; back = w.back; entered_alone = w.entered_alone; offered = w.offered }

unfoldable pub world : ActiveSide → StandbySide → List Message → World
world a b link = record { active = a.active; standby = b.standby; link = link; back = b.back; entered = a.entered; entered_alone = b.entered_alone; given = a.given; offered = b.offered }

-- ---- a side in memory and as it was stored last. What lies in memory only has not left; from the storing on it counts as having left, whether it leaves then, later or never.
pub record Powered (Side : Type 0) : Type 0 where
  pub memory : Side
  pub stored : Side

abbrev pub store : {Side : Type 0} → Powered Side → Powered Side
store p = record { memory = p.memory; stored = p.memory }

abbrev pub remember : {Side : Type 0} → Powered Side → Side → Powered Side
remember p new = record { memory = new; stored = p.stored }

pub record Masters : Type 0 where
  pub active : Powered ActiveSide
  pub standby : Powered StandbySide
  pub link : List Message

-- which things a host keeps back until the state and the rooms that they come from are stored; the others leave at once
pub record Host : Type 0 where
  pub messages : Bool
  pub acknowledgements : Bool
  pub given : Bool
  pub offered : Bool

-- the rule for hosts: all of them
unfoldable pub careful : Host
careful = record { messages = true; acknowledgements = true; given = true; offered = true }

-- the side from which a thing leaves: the stored one where it is kept back
abbrev pub leaving : {Side : Type 0} → Bool → Powered Side → Side
leaving kept_back p = cond kept_back p.stored p.memory

-- ---- what happens: an event of the system, a storing, or a start from what was stored last
pub data Happening : Type 0 where
  does : Event → Happening
  stores_active : Happening
  stores_standby : Happening
  restarts_active : Happening
  restarts_standby : Happening

-- An event changes one side only, or the link only. So each side does it from its own memory, with what has left the other one, and keeps its part of what comes of it; and so does the link, with what leaves the active.
unfoldable pub doing : Host → Rules → Masters → Event → Masters
doing host rules c e = record {
  active = remember c.active (active_side (step rules (world c.active.memory (leaving host.acknowledgements c.standby) c.link) e));
  standby = remember c.standby (standby_side (step rules (world c.active.stored c.standby.memory c.link) e));
  link = (step rules (world (leaving host.messages c.active) c.standby.stored c.link) e).link;
}

-- a restart forgets all but what was stored, a going alone too; what has left stays outside
unfoldable pub active_again : Host → Powered ActiveSide → ActiveSide
active_again host p = record { active = p.stored.active; entered = p.stored.entered; given = (leaving host.given p).given }

unfoldable pub standby_again : Host → Powered StandbySide → StandbySide
standby_again host p = record { standby = p.stored.standby; back = (leaving host.acknowledgements p).back; entered_alone = p.stored.entered_alone; offered = (leaving host.offered p).offered }

unfoldable pub happen : Host → Rules → Masters → Happening → Masters
happen host rules c (does e) = doing host rules c e
happen host rules c stores_active = record { active = store c.active; standby = c.standby; link = c.link }
happen host rules c stores_standby = record { active = c.active; standby = store c.standby; link = c.link }
happen host rules c restarts_active = record { active = remember c.active (active_again host c.active); standby = c.standby; link = c.link }
happen host rules c restarts_standby = record { active = c.active; standby = remember c.standby (standby_again host c.standby); link = c.link }

-- both masters with all of this world stored
unfoldable pub at_rest : World → Masters
at_rest w = record { active = record { memory = active_side w; stored = active_side w }; standby = record { memory = standby_side w; stored = standby_side w }; link = w.link }

-- the masters after any list of happenings, the last one first
unfoldable pub lived : Host → Rules → List Happening → Masters
lived host rules [] = at_rest start
lived host rules (h ∷ hs) = happen host rules (lived host rules hs) h

-- both masters as they run; and as they would start again, with what has left them
unfoldable pub now : Masters → World
now c = world c.active.memory c.standby.memory c.link

unfoldable pub again : Masters → World
again c = world c.active.stored c.standby.stored c.link

-- ---- the claims, of hosts that keep the rule
-- a world that a run without failures comes to
abbrev pub Reached : Rules → World → Type 0
Reached rules w = (es : List Event) × (w ≡ after rules es)

-- whatever the masters do, a failure makes nothing of them that they could not have come to without one, in memory or stored: what is forgotten was never heard of outside
abbrev pub Unnoticed : Type 0
Unnoticed = (rules : Rules) (hs : List Happening) → Reached rules (now (lived careful rules hs)) × Reached rules (again (lived careful rules hs))

-- the safety theorem, with power failures: at every moment, of what is in memory and of what is stored, each with what has left
abbrev pub Safety : Type 0
Safety = (own : List ℕ → Checks) (hs : List Happening) → Safe (paper own) (now (lived careful (paper own) hs)) × Safe (paper own) (again (lived careful (paper own) hs))

-- the system without failures is this one with all stored at once
abbrev pub at_once : List Event → List Happening
at_once [] = []
at_once (e ∷ es) = stores_standby ∷ stores_active ∷ does e ∷ at_once es

abbrev pub AtOnce : Type 0
AtOnce = (rules : Rules) (es : List Event) → now (lived careful rules (at_once es)) ≡ after rules es

-- what has left both cabinets, messages and acknowledgements of any form
pub record Left (Sent Back : Type 0) : Type 0 where
  pub messages : List Sent
  pub acknowledgements : List Back
  pub given : Strips
  pub offered : Strips

-- later there is all of it still, and more before it, the latest first
abbrev pub Ends : {A : Type 0} → List A → List A → Type 0
Ends {A} k l = (m : List A) × (l ≡ m ++ k)

pub record Still {Sent Back : Type 0} (earlier later : Left Sent Back) : Type 0 where
  pub messages : Ends earlier.messages later.messages
  pub acknowledgements : Ends earlier.acknowledgements later.acknowledgements
  pub given : Ends earlier.given later.given
  pub offered : Ends earlier.offered later.offered

unfoldable pub left : World → Left Message ℕ
left w = record { messages = w.link; acknowledgements = w.back; given = w.given; offered = w.offered }

-- what has left is never taken back
abbrev pub Stays : Type 0
Stays = (rules : Rules) (hs more : List Happening) → Still (left (again (lived careful rules hs))) (left (again (lived careful rules (more ++ hs))))
