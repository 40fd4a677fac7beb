-- What a master's state decides by itself: which refusals it gives, its role once it sends, and which acknowledgement counts.
use Rattle.std.specs.Prelude.{ℕ, ◌-◌, Bool, cond, ◌&&◌, ◌||◌, eqb, leb}
use Rattle.refusal.specs.Answer.{is_not}
use Rattle.pool_state.specs.declared.State.{State}
use Rattle.pool_mirror.specs.Mirror.{most}
use Rattle.pool_state.specs.State.{adding, taking, standby, alone, sent}

-- rule 7.7: 23, while an acknowledgement is outstanding
unfoldable pub waiting : State → Bool
waiting m = eqb m.role adding || eqb m.role taking

-- 24: sequence numbers are used up; alone it falls away
unfoldable pub used_up : State → Bool
used_up m = is_not alone m.role && leb most (sent m)

-- 14: no room is free, or strip numbers are used up
unfoldable pub no_room : State → Bool
no_room m = leb 64 (m.added - m.taken) || leb most m.added

-- 15: none is held
unfoldable pub none_held : State → Bool
none_held m = leb m.added m.taken

-- a standby that has not gone on alone
unfoldable pub is_standby : State → Bool
is_standby m = eqb m.role standby

-- what is sent is outstanding from then on; alone, nothing is sent
unfoldable pub sending : State → ℕ → ℕ
sending m kind = cond (eqb m.role alone) alone kind

-- rule 7.2: only the acknowledgement of the outstanding number
unfoldable pub counts : State → ℕ → Bool
counts m k = waiting m && eqb k (sent m)
