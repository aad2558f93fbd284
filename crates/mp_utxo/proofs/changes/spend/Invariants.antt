use Rattle.std.proofs.Common.{◌≡◌, ◌+◌, ◌≤◌, take}
use Rattle.indexmap.specs.IndexMap.{spare, hasher_of}
use Rattle.mp_utxo.specs.Inside.Changes.{Spends}
use Rattle.mp_utxo.proofs.changes.spend.Given as goal

-- what the inputs before the index spend is recorded, each in one unit of the room
abbrev pub invariant-loop-input : goal.invariant-loop-input
invariant-loop-input l = record {
  spends : Spends l.fn.changes.entries l.spender (take l.input-index l.inputs) l.changes.entries;
  room : spare l.fn.changes ≤ spare l.changes + l.input-index;
  salt : hasher_of l.changes ≡ hasher_of l.fn.changes;
}
