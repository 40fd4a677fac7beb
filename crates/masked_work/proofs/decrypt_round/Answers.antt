-- `masked_work::decrypt_round` meets its contract: from the promises of its steps. Assumes nothing.
use Rattle.masked_work.proofs.Rounds.{inv_round_done}
use Rattle.masked_work.proofs.decrypt_round.Goals as goal

pub returns : goal.returns
returns c =
    inv_round_done _ _ _ _ _ _ _ _ _ _ _ c.substitute_bytes.ensures c.restore.ensures c.add_round_key.ensures c.restore-2.ensures
