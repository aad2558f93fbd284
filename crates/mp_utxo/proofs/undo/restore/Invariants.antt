use Rattle.std.proofs.Common.{◌≡◌, take}
use Rattle.indexmap.specs.IndexMap.{hasher_of}
use Rattle.mp_utxo.specs.Inside.Changes.{Restores}
use Rattle.mp_utxo.proofs.undo.restore.Given as goal

-- what the inputs before the index spend is recorded as not spent
abbrev pub invariant-loop-input : goal.invariant-loop-input
invariant-loop-input l = record {
  notes : Restores l.fn.changes.entries (take l.input-index l.inputs) l.changes.entries;
  salt : hasher_of l.changes ≡ hasher_of l.fn.changes;
}
