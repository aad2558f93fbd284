-- The entries that a bundle shares with others.
use Rattle.std.specs.Prelude.{ℤ, List, [], Option, Some, None, IsTrue}
use Rattle.std.specs.Arc.{arc_value}
use Rattle.std.specs.FinMap.Entries.{below_all}
use Rattle.std.specs.declared.sync.Arc.{Arc}
use Rattle.std.specs.declared.vec.Vec.{Vec}
use Rattle.mp_bundle.specs.Token.{coin, token_cmp}
use Rattle.mp_bundle.specs.Bundle.{TokenEntry, with_coin, IsBundle}

-- the entries, if there are any
abbrev pub entries_in : {Y Z : Type 0} → Option (Arc (Vec TokenEntry Y) Z) → List TokenEntry
entries_in None = []
entries_in (Some shared) = (arc_value shared).items

-- the coin and the others are a bundle, and none of the others is coin
pub record IsParted (n : ℤ) (others : List TokenEntry) : Type 0 where
  pub bundle : IsBundle (with_coin n others)
  pub above : IsTrue (below_all token_cmp coin others)
