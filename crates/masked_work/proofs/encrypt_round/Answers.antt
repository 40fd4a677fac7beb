-- `masked_work::encrypt_round` meets its contract: from the promises of its steps. Assumes nothing.
use Rattle.masked_work.proofs.Rounds.{round_done}
use Rattle.masked_work.proofs.encrypt_round.Goals as goal

pub returns : goal.returns
returns c =
    round_done _ _ _ _ _ _ _ _ _ _ _ _ _ c.substitute_bytes.ensures c.shift_rows.ensures c.shift_rows-2.ensures c.mix.ensures c.mix-2.ensures c.add_round_key.ensures
