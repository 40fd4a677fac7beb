-- Four hosts that each let one thing leave before the state and the rooms that it comes from are stored, and runs after which number 1 is handed out twice; the same runs with hosts that keep the rule. Proved in proofs/Unstored.antt.
use Rattle.std.specs.Prelude.{◌≡◌, List, [], ◌∷◌, true, false}
use Rattle.pool_mirror.specs.Mirror.{Strips, paper, adds_strip, takes_strip, sends, arrives, answered, cuts, takes_alone}
use Rattle.pool_mirror.specs.Claims.{Safe}
use Rattle.pool_mirror.specs.Wrong.{good, strip}
use Rattle.pool_mirror.specs.Restarts.{Host, careful, Happening, does, stores_active, stores_standby, restarts_active, restarts_standby, lived, now}

-- ---- the hosts
unfoldable pub message_first : Host
message_first = record { messages = false; acknowledgements = true; given = true; offered = true }

unfoldable pub acknowledgement_first : Host
acknowledgement_first = record { messages = true; acknowledgements = false; given = true; offered = true }

unfoldable pub strip_first : Host
strip_first = record { messages = true; acknowledgements = true; given = false; offered = true }

unfoldable pub strip_first_alone : Host
strip_first_alone = record { messages = true; acknowledgements = true; given = true; offered = false }

-- ---- the runs, the last happening first
-- a strip is added and acknowledged, all of it stored
abbrev pub entry : List Happening
entry = stores_active ∷ does (answered 0) ∷ stores_standby ∷ does (arrives 0) ∷ does sends ∷ stores_active ∷ does (adds_strip strip) ∷ []

-- it is taken; the taking is stored and its message sent
abbrev pub taking_sent : List Happening
taking_sent = does sends ∷ stores_active ∷ does takes_strip ∷ entry

-- the standby goes on alone, and hands out what it holds
abbrev pub alone : List Happening → List Happening
alone hs = stores_standby ∷ does takes_alone ∷ stores_standby ∷ does cuts ∷ hs

-- a second addition is sent and the active restarts without it; it takes the first strip under the same sequence number, and the acknowledgement of the addition comes
abbrev pub number_used_again : List Happening
number_used_again = alone (stores_active ∷ does (answered 0) ∷ stores_active ∷ does takes_strip ∷ restarts_active ∷ stores_standby ∷ does (arrives 0) ∷ does sends ∷ does (adds_strip strip) ∷ entry)

-- the taking is acknowledged and the strip handed out, and the standby restarts without the taking
abbrev pub taking_forgotten : List Happening
taking_forgotten = alone (restarts_standby ∷ stores_active ∷ does (answered 0) ∷ does (arrives 0) ∷ taking_sent)

-- the strip is handed out, the active restarts waiting for the acknowledgement still, and it comes again
abbrev pub answered_again : List Happening
answered_again = stores_active ∷ does (answered 0) ∷ restarts_active ∷ does (answered 0) ∷ stores_standby ∷ does (arrives 0) ∷ taking_sent

-- a master alone hands the strip out, restarts with it, and hands it out
abbrev pub taken_again : List Happening
taken_again = stores_standby ∷ does takes_alone ∷ restarts_standby ∷ does takes_alone ∷ stores_standby ∷ does cuts ∷ entry

-- the standby is told to go on alone and hands the strip out; it restarts as the standby that it was, and follows the active's taking
abbrev pub alone_forgotten : List Happening
alone_forgotten = stores_active ∷ does (answered 0) ∷ stores_standby ∷ does (arrives 0) ∷ does sends ∷ stores_active ∷ does takes_strip ∷ restarts_standby ∷ does takes_alone ∷ does cuts ∷ entry

-- ---- the claims
abbrev pub HandedOut : Host → List Happening → Strips → Strips → Type 0
HandedOut host hs given offered = ((now (lived host (paper good) hs)).given ≡ given) × ((now (lived host (paper good) hs)).offered ≡ offered)

abbrev pub one : Strips
one = (1, strip) ∷ []

abbrev pub twice : Strips
twice = (1, strip) ∷ (1, strip) ∷ []

abbrev pub Unsafe : Host → List Happening → Strips → Strips → Type 0
Unsafe host hs given offered = HandedOut host hs given offered × (Safe (paper good) (now (lived host (paper good) hs)) → ⊥)

pub record Unstored : Type 0 where
  pub message : Unsafe message_first number_used_again one one
  pub acknowledgement : Unsafe acknowledgement_first taking_forgotten one one
  pub handing_out : Unsafe strip_first answered_again twice []
  pub handing_out_alone : Unsafe strip_first_alone taken_again [] twice
  pub going_alone : Unsafe strip_first_alone alone_forgotten one one

-- with the rule kept each of these runs hands the strip out once
pub record Stored : Type 0 where
  pub message : HandedOut careful number_used_again [] one
  pub acknowledgement : HandedOut careful taking_forgotten [] one
  pub handing_out : HandedOut careful answered_again one []
  pub handing_out_alone : HandedOut careful taken_again [] one
  pub going_alone : HandedOut careful alone_forgotten one []
