-- `pool_standby::apply_message` meets its contract: by whether the message is the next. Assumes nothing.
use native.Mathlib.Omega.{arith}
use Rattle.pool_standby.proofs.Promise.{apply_eight, apply_may, apply_none}
use Rattle.pool_standby.proofs.apply_message.Goals as goal

pub apply_next-requires-clause-asked_value : goal.apply_next-requires-clause-asked_value
apply_next-requires-clause-asked_value c =
    (apply_may c.args.state.now c.args.rooms.now c.args.message.now c.args.acknowledgement.now c.requires _ c.read-master.ensures _ c.in-Some.ensures _ c.sequence-sequence.ensures
    (omega (arith, c.sent.ensures.0, c.from.ensures)) (omega arith)).0

pub apply_next-requires-clause-state_len : goal.apply_next-requires-clause-state_len
apply_next-requires-clause-state_len c =
    (apply_may c.args.state.now c.args.rooms.now c.args.message.now c.args.acknowledgement.now c.requires _ c.read-master.ensures _ c.in-Some.ensures _ c.sequence-sequence.ensures
    (omega (arith, c.sent.ensures.0, c.from.ensures)) (omega arith)).1.0

pub write_acknowledgement-requires : goal.write_acknowledgement-requires
write_acknowledgement-requires c = apply_eight c.args.state.now c.args.rooms.now c.args.message.now c.args.acknowledgement.now c.requires

pub returns-in_default : goal.returns-in_default
returns-in_default c = apply_none c.args.state.now c.args.rooms.now c.args.message.now c.args.acknowledgement.now c.requires c.in_default.ensures
