-- Whether a standby applies a message, by rule 7.8.
use Rattle.std.specs.Prelude.{ℕ, suc, ◌-◌, List, Bool, true, false, not, ◌&&◌, ◌||◌, eqb, ltb, Option, Some, None}
use Rattle.refusal.specs.Answer.{passes, is_not}
use Rattle.strip.specs.Strip.{own_checks}
use Rattle.pool_message.specs.Message.{sequence}
use Rattle.pool_message.specs.declared.Message.{Message}
use Rattle.pool_message.specs.declared.Message.TheVariants.{Adds, Takes, Acknowledges}
use Rattle.pool_state.specs.declared.State.{State}
use Rattle.pool_state.specs.State.{standby, sent}

-- what a message adds must be of good form, find room and have the next number; what it takes must be the lowest held
unfoldable pub fits : State → Option Message → List ℕ → Bool
fits m (Some (Adds k n)) s = passes (own_checks s) && (ltb (m.added - m.taken) 64 && eqb n (suc m.added))
fits m (Some (Takes k n)) s = ltb m.taken m.added && eqb n (suc m.taken)
fits m (Some (Acknowledges k)) s = false
fits m None s = false

abbrev pub is_message : Option Message → Bool
is_message (Some (Adds k n)) = true
is_message (Some (Takes k n)) = true
is_message (Some (Acknowledges k)) = false
is_message None = false

-- 16: no standby or one that is alone, no message, one beyond the next, or a next one that does not fit
unfoldable pub not_applied : State → Option Message → List ℕ → Bool
not_applied m x s =
    is_not standby m.role || (not (is_message x) || (ltb (suc (sent m)) (sequence x) || (eqb (sequence x) (suc (sent m)) && not (fits m x s))))
