-- How a table is built from scratch.
use Rattle.std.specs.Prelude.{List, is_some, if◌then◌else◌}
use Rattle.std.specs.Map.{lookup}
use Rattle.indexmap.specs.IndexMap.{insert_entry}
use Rattle.mp_tx.specs.declared.reference.OutRef.{OutRef}
use Rattle.mp_tx.specs.declared.output.Output.{Output}
use Rattle.mp_tx.specs.declared.ledger.change.Change.{Change}
use Rattle.mp_tx.specs.declared.ledger.change.Change.TheVariants.{Spent, Made}
use Rattle.mp_tx.specs.Reference.{same_ref}
use Rattle.mp_tx.specs.Inside.Changes.{Noted}

-- with an output, unless its reference has changed
abbrev pub with_kept : Noted → List (OutRef × Output) → OutRef × Output → List (OutRef × Output)
with_kept cs es e = if is_some (lookup (same_ref e.0) cs) then es else insert_entry same_ref es e.0 e.1

-- with an output that was made
abbrev pub with_change : List (OutRef × Output) → OutRef × Change → List (OutRef × Output)
with_change es (r, Spent) = es
with_change es (r, Made output) = insert_entry same_ref es r output
