-- `aes::turn_row` meets its contract: its four stores are what the contract says. Assumes nothing.
use mathlib.Core.Path.{refl}
use Rattle.aes.specs.Inner.{row_from}
use Rattle.aes.proofs.turn_row.Goals as goal

pub returns : goal.returns
unfolding row_from
returns c = refl
