-- The bytes that are stored.
use Rattle.std.specs.Prelude.{ℕ, List, [], ◌∷◌}
use Rattle.std.specs.Arc.{arc_value}
use Rattle.mp_bytes.specs.declared.hashed_bytes.Content.{Content}
use Rattle.mp_bytes.specs.declared.hashed_bytes.Content.TheVariants.{TrueScript, UnitDatum, Shared}

abbrev pub bytes_in : Content → List ℕ
bytes_in TrueScript = 1 ∷ []
bytes_in UnitDatum = 3 ∷ 0 ∷ 0 ∷ []
bytes_in (Shared digested) = arc_value digested
