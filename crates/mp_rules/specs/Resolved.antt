-- The outputs that a transaction names.
use Rattle.std.specs.Prelude.{List, map}
use Rattle.std.specs.List.{filter_map, zip}
use Rattle.mp_bundle.specs.Bundle.{TokenEntry}
use Rattle.mp_tx.specs.declared.input.Input.{Input}
use Rattle.mp_tx.specs.declared.output.Output.{Output}
use Rattle.mp_tx.specs.Transaction.{Transaction, spent_refs}
use Rattle.mp_utxo.specs.Apply.{Unspent}

pub record Resolved : Type 0 where
  -- what the inputs spend, in order
  pub spent : List Output
  -- what the references lead to, in order
  pub referenced : List Output

-- the outputs that a transaction names; a missing one is left out
abbrev pub resolve : Unspent → Transaction → Resolved
resolve u t = record { spent = filter_map u (spent_refs t.inputs); referenced = filter_map u t.references }

-- each input with the output that it spends
abbrev pub spendings : Transaction → Resolved → List (Input × Output)
spendings t r = zip t.inputs r.spent

-- the bundles of outputs
abbrev pub values : List Output → List (List TokenEntry)
values outputs = map (λ o. o.value) outputs
