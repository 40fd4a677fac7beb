-- `cells::lookup::exchange` meets its contract: from the computed test over four pairs. Assumes nothing.
use Rattle.cells.proofs.Lookups.{exchange_made}
use Rattle.cells.proofs.lookup.exchange.Goals as goal

pub returns : goal.returns
returns c = exchange_made _
