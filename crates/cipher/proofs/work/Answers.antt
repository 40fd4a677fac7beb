-- `cipher::work` meets its contract: from the rounds of each direction. Assumes nothing.
use Rattle.cipher.proofs.Promise.{worked_encrypt, worked_decrypt}
use Rattle.cipher.proofs.work.Goals as goal

pub returns-in-Encrypt : goal.returns-in-Encrypt
returns-in-Encrypt c = search worked_encrypt

pub returns-in-Decrypt : goal.returns-in-Decrypt
returns-in-Decrypt c = search worked_decrypt
