-- Changes of references.
use Rattle.std.specs.Prelude.{List, [], ◌∷◌, ◌++◌, Option, None, Some, is_some, if◌then◌else◌}
use Rattle.std.specs.FinMap.{insert, remove}
use Rattle.std.specs.Map.{lookup}
use Rattle.mp_tx.specs.declared.reference.OutRef.{OutRef}
use Rattle.mp_tx.specs.declared.output.Output.{Output}
use Rattle.mp_tx.specs.declared.ledger.change.Change.{Change}
use Rattle.mp_tx.specs.declared.ledger.change.Change.TheVariants.{Spent, Made}
use Rattle.mp_tx.specs.Reference.{same_ref}
use Rattle.mp_tx.specs.Ledger.{Utxo}

-- references with their changes; if one occurs twice, its first entry counts
abbrev pub Noted : Type 0
Noted = List (OutRef × Change)

-- the output of the reference after the change
abbrev pub output_of : Change → Option Output
output_of Spent = None
output_of (Made output) = Some output

-- the outputs after one change
abbrev pub changed_at : Utxo → OutRef → Change → Utxo
changed_at utxo r Spent = remove utxo r
changed_at utxo r (Made output) = insert utxo r output

-- the outputs after all changes
abbrev pub changed : Utxo → Noted → Utxo
changed utxo [] = utxo
changed utxo (c ∷ cs) = changed_at (changed utxo cs) c.0 c.1

-- with an earlier change of a reference, unless there is a later one
abbrev pub with_earlier : Noted → OutRef × Change → Noted
with_earlier cs c = if is_some (lookup (same_ref c.0) cs) then cs else cs ++ c ∷ []
