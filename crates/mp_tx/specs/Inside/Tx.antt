-- What a transaction stores.
use Rattle.std.specs.Prelude.{◌≡◌}
use Rattle.mp_tx.specs.declared.tx.Tx.TheInside.{Inside}
use Rattle.mp_tx.specs.Transaction.{Transaction}
use Rattle.mp_tx.specs.Spelling.{id_of, size_of}
use Rattle.mp_tx.specs.Parts.{IsTransaction}
use Rattle.mp_tx.specs.Inside.Extras.{references_in, scripts_in}

abbrev pub transaction : Inside → Transaction
transaction t = record {
  inputs = t.inputs;
  references = references_in t.extras;
  outputs = t.outputs;
  from = t.from;
  to = t.to;
  forge = t.forge;
  scripts = scripts_in t.extras;
  signatures = t.signatures.items;
}

-- the id and the size are those of the parts
pub record IsTied (t : Inside) : Type 0 where
  pub fits : IsTransaction (transaction t)
  pub id : t.id ≡ id_of (transaction t)
  pub size : t.size ≡ size_of (transaction t)
