-- The keys by which scripts are found.
use Rattle.std.specs.Prelude.{ℕ, Bool, nat_eq, List}
use Rattle.std.specs.Cmp.Lexicographic.{pointwise}
use Rattle.mp_names.specs.declared.names.NamedScript.{NamedScript}
use Rattle.mp_names.specs.Names.{has_hash}

abbrev pub names_script : List ℕ → NamedScript → Bool
names_script word n = pointwise nat_eq word n.name

abbrev pub hashes_script : List ℕ → NamedScript → Bool
hashes_script hash n = has_hash hash n.script
