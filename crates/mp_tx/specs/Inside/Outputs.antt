-- How contracts see outputs: those of the table, after the changes of all layers.
use Rattle.std.specs.Prelude.{ℕ}
use Rattle.std.specs.FinMap.{from_entries}
use Rattle.std.specs.Arc.{arc_value}
use Rattle.indexmap.specs.IndexMap.{hasher_of}
use Rattle.mp_tx.specs.declared.ledger.outputs.Outputs.TheInside.{Inside}
use Rattle.mp_tx.specs.Inside.Changes.{changed}
use Rattle.mp_tx.specs.Inside.Tables as told
use Rattle.mp_tx.specs.Inside.Tables.{all_of, HaveSalt}

abbrev pub salt_of : Inside → ℕ
salt_of o = hasher_of (arc_value o.base)

abbrev pub outputs : Inside → told.Outputs
outputs o = record {
  salt = salt_of o;
  utxo = changed (from_entries (arc_value o.base).entries) (all_of o.layers);
}

-- the table and all layers have one salt
abbrev pub HasOneSalt : Inside → Type 0
HasOneSalt o = HaveSalt (salt_of o) o.layers
