-- How contracts see borrowed parts.
use Rattle.mp_tx.specs.declared.parts.Parts.{Parts}
use Rattle.mp_tx.specs.Transaction.{Transaction}

abbrev pub lent : Parts → Transaction
lent p = record {
  inputs = p.inputs.now;
  references = p.references.now;
  outputs = p.outputs.now;
  from = p.from;
  to = p.to;
  forge = p.forge.now;
  scripts = p.scripts.now;
  signatures = p.signatures.now;
}
