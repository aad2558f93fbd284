use Rattle.mp_tx.proofs.PartsFaults.{faultless_is_transaction, transaction_is_faultless}
use Rattle.mp_tx.proofs.laws.faultless_is_transaction.Goals as goal

pub returns : goal.returns
returns c = λ t. (faultless_is_transaction t, transaction_is_faultless t)
