-- The names under which transactions are reported.
use Rattle.std.specs.Prelude.{ℕ, List}
use Rattle.std.specs.Ordering.{nat_cmp}
use Rattle.std.specs.Cmp.Lexicographic.{slice_cmp}
use Rattle.std.specs.FinMap.{FinMap}

-- names by ids
abbrev pub Reported : Type 0
Reported = FinMap (slice_cmp nat_cmp) (List ℕ)
