-- The runs of the hosts that store too late, computed from the system, and why each breaks the safety theorem. Assumes nothing.
use Prim.{Unit, tt}
use native.Mathlib.Omega.{arith}
use mathlib.Core.Path.{refl}
use Rattle.refusal.specs.Answer.{first, passes}
use Rattle.pool_mirror.specs.Mirror.{put, less, unless, no_room, add, take, acknowledge, outstanding, fits, apply_to, not_applied, receive, go_alone, add_alone, take_alone, paper, with_active, with_added, with_sent, with_standby, with_alone, arrived, came, added_alone, step, empty, start}
use Rattle.pool_mirror.specs.Restarts.{active_side, standby_side, world, careful, doing, active_again, standby_again, happen, at_rest, lived, now}
use Rattle.pool_mirror.specs.Unstored.{message_first, acknowledgement_first, strip_first, strip_first_alone}
use Rattle.pool_mirror.specs.Unstored as claims

-- one name to compute by
unfoldable computed : Unit {0}
unfolding first put less unless no_room add take acknowledge outstanding passes fits apply_to not_applied receive go_alone add_alone take_alone paper with_active with_added with_sent with_standby with_alone arrived came added_alone step empty start active_side standby_side world careful doing active_again standby_again happen at_rest lived now message_first acknowledgement_first strip_first strip_first_alone
computed = tt

-- no number is above itself
pub unstored : claims.Unstored
unfolding computed
unstored = record {
  message = ((refl, refl), λ s. omega (arith, s.not_by_both.0.0));
  acknowledgement = ((refl, refl), λ s. omega (arith, s.not_by_both.0.0));
  handing_out = ((refl, refl), λ s. omega (arith, s.given_once.0.0));
  handing_out_alone = ((refl, refl), λ s. omega (arith, s.offered_once.0.0));
  going_alone = ((refl, refl), λ s. omega (arith, s.not_by_both.0.0));
}

pub stored : claims.Stored
unfolding computed
stored = record { message = (refl, refl); acknowledgement = (refl, refl); handing_out = (refl, refl); handing_out_alone = (refl, refl); going_alone = (refl, refl) }
