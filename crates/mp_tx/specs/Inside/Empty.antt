-- Parts into which a transaction is read.
use Rattle.std.specs.Prelude.{◌≡◌, []}
use Rattle.mp_tx.specs.declared.tx.TxParts.{TxParts}

pub record AreEmpty (p : TxParts) : Type 0 where
  pub inputs : p.inputs.items ≡ []
  pub references : p.references.items ≡ []
  pub outputs : p.outputs.items ≡ []
  pub scripts : p.scripts.items ≡ []
  pub signatures : p.signatures.items ≡ []
