-- `cells::add_four` meets its contract: its sums in order. Assumes nothing.
use Rattle.cells.proofs.Made.{four_summed}
use Rattle.cells.proofs.add_four.Goals as goal

pub returns : goal.returns
returns c = four_summed c.args.n c.args.mask c.args.p1 c.args.p2 c.args.p3 c.args.p4 _ c.add-sum.ensures.0 c.add-sum.ensures.1 c.add-sum-2.ensures.0 c.add-sum-2.ensures.1 c.add-sum-3.ensures.0 c.add-sum-3.ensures.1 c.add.ensures.0 c.add.ensures.1
