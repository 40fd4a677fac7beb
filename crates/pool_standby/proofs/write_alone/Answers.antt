-- `pool_standby::write_alone` meets its contract: from the state written. Assumes nothing.
use Rattle.refusal.proofs.Part.{of_length}
use Rattle.pool_standby.proofs.Promise.{alone_nine, alone_done}
use Rattle.pool_standby.proofs.write_alone.Goals as goal

pub returns : goal.returns
returns c = alone_done c.args.state.now _ _ c.read.ensures (of_length _ _ _ (alone_nine _ c.requires) c.write.ensures)
