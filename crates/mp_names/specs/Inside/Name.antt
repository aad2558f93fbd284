-- What a name stores.
use Rattle.std.specs.Prelude.{ℕ, List}
use Rattle.mp_names.specs.declared.names.Name.TheInside.{Inside}

abbrev pub bytes_of : Inside → List ℕ
bytes_of n = n.bytes.items
