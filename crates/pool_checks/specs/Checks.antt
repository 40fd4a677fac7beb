-- What each call of a pool refuses, in the order of rule 7.9: the numbers, each with whether it applies.
use Rattle.std.specs.Prelude.{ℕ, List, [], ◌∷◌, ◌++◌, Bool, true, false, not, ◌||◌, drop, ltb, Option, Some, None}
use Rattle.strip.specs.Strip.{own_checks}
use Rattle.pool_message.specs.Message.{read_of}
use Rattle.pool_message.specs.declared.Message.{Message}
use Rattle.pool_message.specs.declared.Message.TheVariants.{Adds, Takes, Acknowledges}
use Rattle.pool_state.specs.State.{standby, state_in, no_state}
use Rattle.pool_master.specs.Master.{waiting, used_up, no_room, none_held, is_standby}
use Rattle.pool_lent.specs.Lent.{not_lent, not_lent_with, not_lent_out}
use Rattle.pool_fits.specs.Fits.{not_applied}

-- ---- adding, which a standby does not: 23 and 24, then the strip's own, then 14
abbrev pub add_checks : List ℕ → ℕ → List ℕ → List (ℕ × Bool)
add_checks st rooms s =
    (6, (not_lent st rooms || is_standby (state_in st))) ∷ (23, waiting (state_in st)) ∷ (24, used_up (state_in st)) ∷ own_checks s ++ ((14, no_room (state_in st)) ∷ [])

-- ---- taking: 23 and 24, then 15
abbrev pub take_checks : List ℕ → ℕ → ℕ → ℕ → List (ℕ × Bool)
take_checks st rooms number strip =
    (6, (not_lent_out st rooms number strip || is_standby (state_in st))) ∷ (23, waiting (state_in st)) ∷ (24, used_up (state_in st)) ∷ (15, none_held (state_in st)) ∷ []

-- ---- the outstanding message
abbrev pub outstanding_checks : List ℕ → ℕ → ℕ → List (ℕ × Bool)
outstanding_checks st rooms message = (6, not_lent_with 688 st rooms message) ∷ []

-- ---- an acknowledgement
abbrev pub is_acknowledgement : Option Message → Bool
is_acknowledgement (Some (Adds k n)) = false
is_acknowledgement (Some (Takes k n)) = false
is_acknowledgement (Some (Acknowledges k)) = true
is_acknowledgement None = false

abbrev pub acknowledge_checks : List ℕ → ℕ → List ℕ → ℕ → ℕ → List (ℕ × Bool)
acknowledge_checks st rooms bytes number strip = (6, not_lent_out st rooms number strip) ∷ (16, not (is_acknowledgement (read_of bytes))) ∷ []

-- ---- a message at the standby, whose strip is all from the thirteenth byte on
abbrev pub apply_checks : List ℕ → ℕ → List ℕ → ℕ → List (ℕ × Bool)
apply_checks st rooms bytes acknowledgement = (6, not_lent_with 8 st rooms acknowledgement) ∷ (16, not_applied (state_in st) (read_of bytes) (drop 12 bytes)) ∷ []

-- ---- going on alone, which no active master does
abbrev pub go_alone_checks : List ℕ → List (ℕ × Bool)
go_alone_checks st = (6, (no_state st || ltb (state_in st).role standby)) ∷ []
