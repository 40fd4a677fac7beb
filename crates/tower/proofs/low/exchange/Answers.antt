-- `tower::low::exchange` meets its contract: from the law of joining, at one bit. Assumes nothing.
use Prim.Native.Nat.{◌/◌}
use native.Mathlib.Omega.{arith}
use Rattle.tower.proofs.Leaf.{join_made}
use Rattle.tower.proofs.Split.{lo_lt}
use Rattle.tower.specs.Tower.{exchange, hi, lo}
use Rattle.tower.proofs.low.exchange.Goals as goal

pub returns : goal.returns
unfolding exchange hi lo
returns c = join_made 1 c.args.x (c.args.x / 2) (let h = lo_lt 1 c.args.x in omega arith)
