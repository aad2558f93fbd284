-- What a list of few items stores.
use Rattle.std.specs.Prelude.{List}
use Rattle.mp_tx.specs.declared.few.Stored.{Stored}
use Rattle.mp_tx.specs.declared.few.Stored.TheVariants.{One, Several}

abbrev pub those : {T : Type 0} → Stored T → List T
those (One only) = only.item
those (Several items) = items.items
