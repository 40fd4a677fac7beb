-- The safety theorem, from what every event keeps. Assumes nothing.
use Prim.Native.Nat.{ℕ, suc, ◌≤◌}
use native.Mathlib.Omega.{arith}
use borrow.Author.Tests.{le-ltb, eq-eqb, ne_eqb}
use mathlib.Core.Path.{◌≡◌, refl, sym, ◌∙◌}
use mathlib.Core.Logic.{⊎_elim}
use mathlib.Core.List.{List, [], ◌∷◌}
use mathlib.Core.Bool.{true, false}
use Rattle.refusal.specs.Refusal.{refusal}
use Rattle.refusal.specs.Answer.{first}
use Rattle.pool_mirror.specs.Mirror.{Checks, done, handed, acknowledged, refused, unless, nothing, taking, Active, waiting, add, take, acknowledge, Message, sequence, outstanding, Standby, fits, not_applied, receive, paper, World}
use Rattle.pool_mirror.specs.Claims.{All, Safe}
use Rattle.pool_mirror.specs.Claims as claims
use Rattle.pool_mirror.proofs.Pools.{all_map, above, whole_ordered, whole_above}
use Rattle.pool_mirror.proofs.Kept.{Sync, level, ahead, Kept, numbered, quiet, kept}

-- while a message is outstanding nothing is added or taken
waits_add : (own : List ℕ → Checks) (s : List ℕ) (a : Active) → waiting a.out ≡ true → add own s a ≡ (refused (refusal 23), a)
unfolding add unless first
waits_add own s a e = simp e

waits_take : (a : Active) → waiting a.out ≡ true → take a ≡ (refused (refusal 23), a)
unfolding take unless first
waits_take a e = simp e

other : (k : ℕ) (a : Active) → (k ≡ a.sent → ⊥) → acknowledge k a ≡ (done, a)
unfolding acknowledge
other k a d = simp (ne_eqb k a.sent d)

settle : (a : Active) → (acknowledge a.sent a).1 ≡ record { pool = a.pool; sent = a.sent; out = nothing }
unfolding acknowledge
settle a = simp (eq-eqb a.sent a.sent refl)

hands : (a : Active) (x : ℕ × List ℕ) → a.out ≡ taking x → (acknowledge a.sent a).0 ≡ handed x
unfolding acknowledge
hands a x e = simp (eq-eqb a.sent a.sent refl, e)

-- the standby acknowledges an old message, and the next one where it fits
module _ (own : List ℕ → Checks) (m : Message) (b : Standby) (here : b.alone ≡ false) where
  old : sequence m ≤ b.applied → (receive own m b).0 ≡ acknowledged (sequence m)
  unfolding receive not_applied unless first
  old h = simp (here, le-ltb (suc b.applied) (sequence m) (omega arith), ne_eqb (sequence m) (suc b.applied) (λ e. omega arith))

  next : sequence m ≡ suc b.applied → fits own b.pool m ≡ true → (receive own m b).0 ≡ acknowledged (sequence m)
  unfolding receive not_applied unless first
  next e f = simp (here, le-ltb (suc b.applied) (sequence m) (omega arith), eq-eqb (sequence m) (suc b.applied) e, f)

module _ (own : List ℕ → Checks) (w : World) (v : Kept own w) where
  hears : w.standby.alone ≡ false → All (λ m. (receive own m w.standby).0 ≡ acknowledged (sequence m)) w.link
  hears here = all_map w.link (λ m. ⊎_elim (old own m w.standby here) (λ o. sent m o v.near.sync)) v.line.messages where
    sent : (m : Message) → outstanding w.active ≡ m ∷ [] → Sync own v.r w.standby.applied w.active → (receive own m w.standby).0 ≡ acknowledged (sequence m)
    sent m o (level f g) = old own m w.standby here (omega (arith, numbered w.active m o))
    sent m o (ahead m' f g i x) = let q : m' ≡ m = cc in next own m w.standby here (numbered w.active m o ∙ i) (rw ((v.far.same here).0, ← q) x)

  follows : Safe (paper own) w
  unfolding paper
  follows = record {
    never = all_map w.standby.pool.held (λ x h. (above x.0 (omega (arith, v.far.beyond)) v.near.handed_out, above x.0 h v.far.handed_out))
        (whole_above v.far.whole);
    given_once = v.near.handed_out.upward;
    offered_once = v.far.handed_out.upward;
    not_by_both = all_map w.offered (λ x h. above x.0 h.0 v.near.handed_out) v.far.handed_out.between;
    given_added = v.near.among;
    offered_added = v.far.among;
    numbered_once = v.near.entries.numbers.upward;
    numbered_alone = v.alone.numbers.upward;
    added_fit = v.near.entries.fit;
    added_alone_fit = v.alone.fit;
    active_ordered = whole_ordered v.near.whole;
    standby_ordered = whole_ordered v.far.whole;
    one_add = λ e s. waits_add own s w.active e;
    one_take = waits_take w.active;
    only = λ k. other k w.active;
    settles = settle w.active;
    mirrored = λ o here. (v.far.same here).0 ∙ sym (quiet o v.near.sync).0;
    heard = hears;
    served = hands w.active;
  }

pub safety : claims.Safety
safety own es = follows own _ (kept own es)
