-- A transaction as a scenario declares it.
use Rattle.std.specs.Prelude.{List}
use Rattle.mp_tx.specs.Transaction.{Transaction}
use Rattle.mp_names.specs.declared.payment.Payment.{Payment}

pub record DeclaredTx : Type 0 where
  pub tx : Transaction
  -- its outputs, with the scripts and data that the transaction names only by hash
  pub payments : List Payment
