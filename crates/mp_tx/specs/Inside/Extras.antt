-- What only few transactions have, stored apart.
use Rattle.std.specs.Prelude.{ℕ, List, [], Option, Some, None}
use Rattle.std.specs.declared.boxed.Box.{Box}
use Rattle.mp_tx.specs.declared.reference.OutRef.{OutRef}
use Rattle.mp_tx.specs.declared.extras.Extras.{Extras}

abbrev pub references_in : {Z : Type 0} → Option (Box Extras Z) → List OutRef
references_in None = []
references_in (Some extras) = extras.value.references.items

abbrev pub scripts_in : {Z : Type 0} → Option (Box Extras Z) → List (List ℕ)
scripts_in None = []
scripts_in (Some extras) = extras.value.scripts.items
