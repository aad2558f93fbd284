use Rattle.std.proofs.Common.{◌≡◌, fold}
use Rattle.indexmap.specs.IndexMap.{hasher_of}
use Rattle.mp_tx.specs.Inside.Changes.{with_earlier}
use Rattle.mp_tx.proofs.ledger.change.join.Given as goal

-- with the remaining ones, the changes are all
abbrev pub invariant-loop-reference : goal.invariant-loop-reference
invariant-loop-reference l = record {
  noted : fold with_earlier l.changes.entries l.reference-iterator ≡ fold with_earlier l.fn.changes.entries l.fn.earlier.entries;
  salt : hasher_of l.changes ≡ hasher_of l.fn.changes;
}
