-- `pool_sending::write_message` meets its contract: by the role, the message written over zeros. Assumes nothing.
use native.Mathlib.Omega.{arith}
use mathlib.Core.Path.{◌≡◌, sym, ◌∙◌}
use borrow.Author.Tests.{eqb-true, eqb-false}
use Rattle.pool_sending.proofs.Promise.{out_sum, out_begun, out_zeroed, out_zeros, out_taking, out_none, out_adding}
use Rattle.pool_sending.proofs.write_message.Goals as goal

pub write_addition-requires : goal.write_addition-requires
write_addition-requires c =
    let role : c.read-master.result.role ≡ 1 = eqb-true _ 1 (sym c.is.ensures ∙ c.if-is.true) in
    record {
      message_value = out_zeros c.args.state.now c.args.rooms.now c.args.message.now c.requires _ c.read-master.ensures _ c.zero.ensures;
      master_bound = (omega (arith, out_sum c.args.state.now c.args.rooms.now c.args.message.now c.requires _ c.read-master.ensures (λ x. omega arith)), out_begun c.args.state.now c.args.rooms.now c.args.message.now c.requires _ c.read-master.ensures role);
    }

pub returns-then-is : goal.returns-then-is
returns-then-is c = out_adding c.args.state.now c.args.rooms.now c.args.message.now c.requires _ c.read-master.ensures _ (eqb-true _ 1 (sym c.is.ensures ∙ c.if-is.true)) c.write_addition.ensures

pub overflow_add-sequence : goal.overflow_add-sequence
overflow_add-sequence c =
    let role : c.read-master.result.role ≡ 2 = eqb-true _ 2 (sym c.is-else-is.ensures ∙ c.if-is-2.true) in
    omega (arith, out_sum c.args.state.now c.args.rooms.now c.args.message.now c.requires _ c.read-master.ensures (λ x. omega arith))

pub write_front-requires : goal.write_front-requires
write_front-requires c = out_zeroed c.args.state.now c.args.rooms.now c.args.message.now c.requires _ c.read-master.ensures _ c.zero.ensures

pub returns-then-is-2 : goal.returns-then-is-2
returns-then-is-2 c = out_taking c.args.state.now c.args.rooms.now c.args.message.now c.requires _ c.read-master.ensures _ c.zero.ensures _ (eqb-true _ 2 (sym c.is-else-is.ensures ∙ c.if-is-2.true)) c.write_front.ensures

pub returns-else-is-2 : goal.returns-else-is-2
returns-else-is-2 c = out_none c.args.state.now c.args.rooms.now c.args.message.now c.requires _ c.read-master.ensures _ c.zero.ensures (eqb-false _ 1 (sym c.is.ensures ∙ c.if-is.false)) (eqb-false _ 2 (sym c.is-else-is.ensures ∙ c.if-is-2.false))
