-- `aes::add_round_key` meets its contract: from the tests of the length and of the round. Assumes nothing.
use mathlib.Core.Path.{refl}
use Rattle.aes.proofs.Chosen.{no_state_law, no_key, key_added}
use Rattle.aes.proofs.add_round_key.Goals as goal

pub returns-then-part-ne16 : goal.returns-then-part-ne16
returns-then-part-ne16 c = no_state_law _ _ _ _ c.if-part-ne16.true refl

pub returns-then-keys-round : goal.returns-then-keys-round
returns-then-keys-round c = no_key _ _ _ _ c.if-part-ne16.false c.if-keys-round.true refl

pub returns : goal.returns
returns c =
    let start = c.args in
    key_added start.part.now start.keys.now _ start.round c.if-part-ne16.false c.if-keys-round.false c.add_key.ensures
