-- How items are put in increasing order.
use Rattle.std.specs.Prelude.{List}
use Rattle.std.specs.Ordering.{is_lt}
use Rattle.std.specs.List.{position_or_len, insert}
use Rattle.std.specs.declared.cmp.Ordering.{Ordering}
use Rattle.mp_bundle.specs.Token.{token_cmp}
use Rattle.mp_bundle.specs.Bundle.{TokenEntry}
use Rattle.mp_tx.specs.declared.input.Input.{Input}
use Rattle.mp_tx.specs.Reference.{ref_cmp}

-- entries are ordered by token
abbrev pub entry_cmp : TokenEntry → TokenEntry → Ordering
entry_cmp a b = token_cmp a.0 b.0

-- inputs are ordered by what they spend
abbrev pub input_cmp : Input → Input → Ordering
input_cmp a b = ref_cmp a.from b.from

-- the item is put before the first one that is greater
abbrev pub insert_rising : {X : Type 0} → (X → X → Ordering) → X → List X → List X
insert_rising cmp x xs = insert xs (position_or_len (λ y. is_lt (cmp x y)) xs) x
