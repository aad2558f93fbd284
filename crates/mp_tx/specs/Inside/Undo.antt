-- How the changes of a block are found.
use Rattle.std.specs.Prelude.{◌≡◌, List, [], ◌∷◌, Option, None, Some, is_some, if◌then◌else◌}
use Rattle.std.specs.List.{IsDistinct, flat_map}
use Rattle.std.specs.FinMap.{get}
use Rattle.mp_tx.specs.declared.reference.OutRef.{OutRef}
use Rattle.mp_tx.specs.declared.output.Output.{Output}
use Rattle.mp_tx.specs.declared.undo.Notes.{Notes}
use Rattle.mp_tx.specs.Reference.{same_ref}
use Rattle.mp_tx.specs.Ledger.{Utxo}

-- the output with the reference, if there is one
abbrev pub entry_of : OutRef → Option Output → List (OutRef × Output)
entry_of r None = []
entry_of r (Some output) = (r, output) ∷ []

-- the outputs of these references
abbrev pub found : Utxo → List OutRef → List (OutRef × Output)
found utxo rs = flat_map (λ r. entry_of r (get utxo r)) rs

-- those of these references that lead to outputs
abbrev pub leading : Utxo → List OutRef → List OutRef
leading utxo rs = flat_map (λ r. if is_some (get utxo r) then r ∷ [] else []) rs

-- what each reference leads to before and after is noted once
pub record AreOf (before after : Utxo) (n : Notes) : Type 0 where
  pub spent : n.spent.items ≡ found before n.seen.keys
  pub made : n.made.items ≡ leading after n.seen.keys
  pub once : IsDistinct same_ref n.seen.keys
