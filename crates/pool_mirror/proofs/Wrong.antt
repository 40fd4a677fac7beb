-- The runs of the wrong pairs, computed from the system, and why each breaks the safety theorem. Assumes nothing.
use Prim.{Unit, tt}
use Prim.Native.Nat.{ℕ}
use native.Mathlib.Omega.{arith}
use mathlib.Core.Path.{◌≡◌, refl, ap}
use mathlib.Core.Logic.{⊎_elim}
use mathlib.Core.List.{List, [], ◌∷◌}
use Rattle.refusal.specs.Answer.{first, passes}
use Rattle.refusal.proofs.First.{true_false}
use Rattle.pool_mirror.specs.Mirror.{put, less, unless, no_room, Active, waiting, add, take, acknowledge, outstanding, fits, apply_to, not_applied, receive, go_alone, add_alone, take_alone, Rules, paper, Event, with_active, with_added, with_sent, with_standby, with_alone, arrived, came, added_alone, step, empty, start, after}
use Rattle.pool_mirror.specs.Wrong.{but, forgets, forgetful, deaf, hasty, credulous, repeats, repeating, unsettled, strip, ByBoth}
use Rattle.pool_mirror.specs.Wrong as wrong

-- one name to compute by
unfoldable computed : Unit {0}
unfolding first put less unless no_room add take acknowledge outstanding passes fits apply_to not_applied receive go_alone add_alone take_alone paper with_active with_added with_sent with_standby with_alone arrived came added_alone step empty start after but forgets forgetful deaf hasty credulous repeats repeating unsettled
computed = tt

-- no number is above itself
by_both : (rules : Rules) (es : List Event) → (after rules es).given ≡ (1, strip) ∷ [] → (after rules es).offered ≡ (1, strip) ∷ [] → ByBoth rules es
by_both rules es g o = ((g, o), λ s. let n = rw (g, o) at s.not_by_both in omega (arith, n.0.0))

pub forgetful_unsafe : wrong.Forgetful
unfolding computed
forgetful_unsafe = by_both forgetful wrong.accident refl refl

pub hasty_unsafe : wrong.Hasty
unfolding computed
hasty_unsafe = by_both hasty wrong.cut_at_taking refl refl

pub credulous_unsafe : wrong.Credulous
unfolding computed
credulous_unsafe = by_both credulous wrong.late_answer refl refl

-- number 2 was never entered
pub repeating_unsafe : wrong.Repeating
unfolding computed
repeating_unsafe = ((refl, refl), refl, λ s. ⊎_elim (λ e. let n : ◌≡◌ {A = ℕ} 2 1 = ap (λ (x : ℕ × List ℕ). x.0) e in omega arith) (λ z. z) s.offered_added.0)

pub deaf_unsafe : wrong.Deaf
unfolding computed
deaf_unsafe = ((refl, refl), λ s. let e = (s.heard refl).0 in let z : ◌≡◌ {A = ℕ} 0 1 = cc in omega arith)

-- the message is still outstanding, and the claim says that it is not
pub unsettled_unsafe : wrong.Unsettled
unfolding computed
unsettled_unsafe = (refl, λ s. let e = ap (λ (a : Active). waiting a.out) s.settles in true_false e)

pub right : wrong.Right
unfolding computed
right = record {
  only_the_rule = refl;
  forgetful_run = (refl, refl);
  hasty_run = (refl, refl);
  credulous_run = (refl, refl);
  repeating_run = (refl, refl);
  deaf_run = (refl, refl);
  unsettled_run = refl;
}
