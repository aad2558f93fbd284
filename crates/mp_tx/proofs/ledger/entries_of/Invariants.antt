use Rattle.std.proofs.Common.{◌≡◌, ◌++◌}
use Rattle.mp_tx.proofs.ledger.entries_of.Given as goal

-- with the remaining ones, the entries are the table's
abbrev pub invariant-loop-reference : goal.invariant-loop-reference
invariant-loop-reference l = l.outputs.items ++ l.reference-iterator ≡ l.fn.table.entries
