-- Strictly increasing lists.
use Rattle.std.specs.Prelude.{Bool, true, ◌&&◌, List, [], ◌∷◌, Option, None, Some}
use Rattle.std.specs.Ordering.{is_lt}
use Rattle.std.specs.declared.cmp.Ordering.{Ordering}

-- whether an item is greater than the one before it, if there is one
abbrev pub follows : {X : Type 0} → (X → X → Ordering) → Option X → X → Bool
follows cmp None x = true
follows cmp (Some before) x = is_lt (cmp before x)

-- whether the items are strictly increasing after the one before them, if there is one
abbrev pub rises_after : {X : Type 0} → (X → X → Ordering) → Option X → List X → Bool
rises_after cmp before [] = true
rises_after cmp before (x ∷ xs) = follows cmp before x && rises_after cmp (Some x) xs

-- whether the items are strictly increasing
abbrev pub rises : {X : Type 0} → (X → X → Ordering) → List X → Bool
rises cmp xs = rises_after cmp None xs
