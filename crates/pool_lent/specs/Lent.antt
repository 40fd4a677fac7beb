-- Whether what a call of the pool is lent is not as it must be, for every state and any lengths: rule 7.10.
use Rattle.std.specs.Prelude.{ℕ, List, Bool, ◌||◌}
use Rattle.refusal.specs.Answer.{is_not}
use Rattle.pool_rooms.specs.Rooms.{rooms_size}
use Rattle.pool_state.specs.State.{no_state}

-- 6: state or rooms not lent as they must be; or a further part not of its size; for a strip handed out, its number not as four bytes or the strip not as 676
unfoldable pub not_lent : List ℕ → ℕ → Bool
not_lent st rooms = no_state st || is_not rooms_size rooms

unfoldable pub not_lent_with : ℕ → List ℕ → ℕ → ℕ → Bool
not_lent_with size st rooms part = not_lent st rooms || is_not size part

unfoldable pub not_lent_out : List ℕ → ℕ → ℕ → ℕ → Bool
not_lent_out st rooms number strip = not_lent_with 4 st rooms number || is_not 676 strip
