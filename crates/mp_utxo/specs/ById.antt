-- Tables whose keys are transaction ids.
use Rattle.std.specs.Prelude.{ℕ, List}
use Rattle.mp_tx.specs.declared.reference.OutRef.{OutRef}

-- the key of an id in a table: the reference to the first output of its transaction
abbrev pub key_of : List ℕ → OutRef
key_of id = record { id = id; index = 0 }
