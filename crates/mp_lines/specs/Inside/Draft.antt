-- What a draft stores.
use Rattle.std.specs.Prelude.{[]}
use Rattle.mp_tx.specs.Transaction.{Transaction}
use Rattle.mp_lines.specs.declared.draft.Draft.TheInside.{Inside}
use Rattle.mp_lines.specs.Draft.{Draft, transaction_of}

abbrev pub draft : Inside → Draft
draft d = record {
  inputs = d.inputs.items;
  references = d.references.items;
  payments = d.payments.items;
  from = d.from;
  to = d.to;
  forge = d.forge;
  scripts = d.scripts.items;
  signers = d.signers.items;
}

-- the transaction without what has to be copied, and without signatures
abbrev pub bare_of : Draft → Transaction
bare_of d = record (transaction_of d []) { inputs = []; references = []; outputs = []; forge = []; scripts = [] }
