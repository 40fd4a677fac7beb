-- What was done since the last store can be done again, over any two sides and a link between them: from what one event does. Assumes nothing.
use Prim.Native.Nat.{ℕ, suc}
use mathlib.Core.Path.{◌≡◌, refl, sym, ap, ◌∙◌}
use mathlib.Core.List.{List, [], ◌∷◌, ◌++◌, append_assoc}
use Rattle.pool_mirror.specs.Mirror.{at}
use Rattle.pool_mirror.specs.Restarts.{Powered, store, remember, Ends}

-- ---- a list and a later one that ends in it
pub ends : {A : Type 0} (l : List A) → Ends l l
ends l = ([], refl)

pub ends_after : {A : Type 0} {k l m : List A} → Ends k l → Ends l m → Ends k m
ends_after {k} f g = (g.0 ++ f.0, g.1 ∙ ap (λ t. g.0 ++ t) f.1 ∙ sym (append_assoc g.0 f.0 k))

-- what stood in it stands in the later one
pub still_there : {A : Type 0} (k : ℕ) {l m : List A} → Ends l m → (j : ℕ) × (at j m ≡ at k l)
still_there {A} k {l} {m} f = let h = go f.0 in (h.0, ap (at h.0) f.1 ∙ h.1) where
  go : (x : List A) → (j : ℕ) × (at j (x ++ l) ≡ at k l)
  go [] = (k, refl)
  go (y ∷ x) = let h = go x in (suc h.0, h.1)

-- ---- what is stored is reached, and so is what is in memory, from any place that has the stored side and in which as much has left the other one
module _ (Active Standby Sent Back : Type 0) (back : Standby → List Back) (Reached : Active → Standby → List Sent → Type 0) where
  pub record Redone (a : Powered Active) (b : Powered Standby) (link : List Sent) : Type 0 where
    pub stored : Reached a.stored b.stored link
    pub active : (y : Standby) (l : List Sent) → Ends (back b.stored) (back y) → Reached a.stored y l → Reached a.memory y l
    pub standby : (x : Active) (l : List Sent) → Ends link l → Reached x b.stored l → Reached x b.memory l
    pub heard : Ends (back b.stored) (back b.memory)

  module _ (a : Powered Active) (b : Powered Standby) (link : List Sent) (v : Redone a b link) where
    -- one event, of which each side and the link keep their part
    pub redone : (x : Active) (y : Standby) (l : List Sent)
        → ((z : Standby) (k : List Sent) → Ends (back b.stored) (back z) → Reached a.memory z k → Reached x z k)
        → ((z : Active) (k : List Sent) → Ends link k → Reached z b.memory k → Reached z y k)
        → (Reached a.stored b.stored link → Reached a.stored b.stored l) → Ends link l → Ends (back b.memory) (back y)
        → Redone (remember a x) (remember b y) l
    redone x y l active standby sent longer heard = record {
      stored = sent v.stored;
      active = λ z k f r. active z k f (v.active z k f r);
      standby = λ z k f r. let g = ends_after longer f in standby z k g (v.standby z k g r);
      heard = ends_after v.heard heard;
    }

    pub active_stored : Redone (store a) b link
    active_stored = record { stored = v.active b.stored link (ends _) v.stored; active = λ y l f r. r; standby = v.standby; heard = v.heard }

    pub standby_stored : Redone a (store b) link
    standby_stored = record { stored = v.standby a.stored link (ends _) v.stored; active = λ y l f r. v.active y l (ends_after v.heard f) r; standby = λ x l f r. r; heard = ends _ }

    pub active_restarted : Redone (remember a a.stored) b link
    active_restarted = record { stored = v.stored; active = λ y l f r. r; standby = v.standby; heard = v.heard }

    pub standby_restarted : Redone a (remember b b.stored) link
    standby_restarted = record { stored = v.stored; active = v.active; standby = λ x l f r. r; heard = ends _ }

    -- what is in memory on both sides
    pub memory_reached : Reached a.memory b.memory link
    memory_reached = v.active b.memory link v.heard (v.standby a.stored link (ends _) v.stored)
