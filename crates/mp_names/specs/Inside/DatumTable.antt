-- The keys by which data are found.
use Rattle.std.specs.Prelude.{ℕ, Bool, nat_eq, List}
use Rattle.std.specs.Cmp.Lexicographic.{pointwise}
use Rattle.mp_names.specs.declared.names.NamedDatum.{NamedDatum}

abbrev pub names_datum : List ℕ → NamedDatum → Bool
names_datum word n = pointwise nat_eq word n.name
