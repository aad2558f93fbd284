use Rattle.std.proofs.Common.{◌≡◌, fold}
use Rattle.indexmap.specs.IndexMap.{hasher_of}
use Rattle.mp_tx.specs.Inside.Base.{with_change}
use Rattle.mp_tx.proofs.ledger.base.put_changes.Given as goal

-- with the remaining ones, the table is the whole one
abbrev pub invariant-loop-reference : goal.invariant-loop-reference
invariant-loop-reference l = record {
  put : fold with_change l.base.entries l.reference-iterator ≡ fold with_change l.fn.base.entries l.fn.changes.entries;
  salt : hasher_of l.base ≡ hasher_of l.fn.base;
}
