-- What is claimed of every run of the system: cut the power of the active at any moment, lose, repeat, delay and reorder as you like. Proved in proofs/Claims.antt.
use Prim.{Unit}
use Rattle.std.specs.Prelude.{ℕ, suc, ◌+◌, ◌≤◌, ◌<◌, ◌≡◌, ◌⊎◌, List, [], ◌∷◌, ◌++◌, true, false, length}
use Rattle.refusal.specs.Refusal.{refusal}
use Rattle.refusal.specs.Answer.{passes}
use Rattle.pool_mirror.specs.Mirror.{Strips, Pool, Checks, done, handed, acknowledged, refused, nothing, taking, waiting, sequence, Rules, paper, World, Event, after}

abbrev pub All : {A : Type 0} → (A → Type 0) → List A → Type 0
All P [] = Unit {0}
All P (x ∷ l) = P x × All P l

abbrev pub In : {A : Type 0} → A → List A → Type 0
In x [] = ⊥
In x (y ∷ l) = (x ≡ y) ⊎ In x l

-- a number above those of all these strips
abbrev pub Above : Strips → ℕ → Type 0
Above l n = All (λ x. x.0 < n) l

-- the latest first, each number above all before it: no number twice
abbrev pub Upward : Strips → Type 0
Upward [] = Unit {0}
Upward (x ∷ l) = Above l x.0 × Upward l

-- the numbers are the next after t, one by one
abbrev pub Following : ℕ → Strips → Type 0
Following t [] = Unit {0}
Following t (x ∷ l) = (x.0 ≡ suc t) × Following (suc t) l

-- what holds of the strips in each pool
pub record Ordered (p : Pool) : Type 0 where
  -- strips ever added equal those held plus those ever taken
  pub counted : p.added ≡ length p.held + p.taken
  -- held are the numbers after those ever taken, and at most 64
  pub following : Following p.taken p.held
  pub few : length p.held ≤ 64

-- all these strips pass a strip's own checks
abbrev pub Fit : (List ℕ → Checks) → Strips → Type 0
Fit own l = All (λ x. passes (own x.1) ≡ true) l

pub record Safe (rules : Rules) (w : World) : Type 0 where
  -- the standby never offers a number that was handed out, by the active or by itself
  pub never : All (λ x. Above w.given x.0 × Above w.offered x.0) w.standby.pool.held
  -- every number is handed out at most once over both masters
  pub given_once : Upward w.given
  pub offered_once : Upward w.offered
  pub not_by_both : All (λ x. Above w.given x.0) w.offered
  -- what is handed out under a number is the strip that was added under it, and each master gives every number once
  pub given_added : All (λ x. In x w.entered) w.given
  pub offered_added : All (λ x. In x (w.entered_alone ++ w.entered)) w.offered
  pub numbered_once : Upward w.entered
  pub numbered_alone : Upward w.entered_alone
  -- and every strip that was added is of good form
  pub added_fit : Fit rules.own w.entered
  pub added_alone_fit : Fit rules.own w.entered_alone
  -- each pool is in order
  pub active_ordered : Ordered w.active.pool
  pub standby_ordered : Ordered w.standby.pool
  -- one message is outstanding at a time, and only the acknowledgement of its number counts
  pub one_add : waiting w.active.out ≡ true → (s : List ℕ) → rules.on_add s w.active ≡ (refused (refusal 23), w.active)
  pub one_take : waiting w.active.out ≡ true → rules.on_take w.active ≡ (refused (refusal 23), w.active)
  pub only : (k : ℕ) → (k ≡ w.active.sent → ⊥) → rules.on_acknowledgement k w.active ≡ (done, w.active)
  -- that one settles it: nothing is outstanding any more, and all else stays
  pub settles : (rules.on_acknowledgement w.active.sent w.active).1 ≡ record { pool = w.active.pool; sent = w.active.sent; out = nothing }
  -- with nothing outstanding the two pools are equal, strips included, until the standby goes on alone
  pub mirrored : w.active.out ≡ nothing → w.standby.alone ≡ false → w.standby.pool ≡ w.active.pool
  -- until then it acknowledges every message ever sent, in any order and however often
  pub heard : w.standby.alone ≡ false → All (λ m. (rules.on_message m w.standby).0 ≡ acknowledged (sequence m)) w.link
  -- and an acknowledged taking hands its strip out
  pub served : (x : ℕ × List ℕ) → w.active.out ≡ taking x → (rules.on_acknowledgement w.active.sent w.active).0 ≡ handed x

-- the safety theorem: whatever the strip's own checks are, and whatever happens, in whatever order
abbrev pub Safety : Type 0
Safety = (own : List ℕ → Checks) (es : List Event) → Safe (paper own) (after (paper own) es)
