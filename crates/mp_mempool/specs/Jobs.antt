-- What jobs make of items.
use Rattle.std.specs.Prelude.{List, Contains}

-- The result is what is done with one of the items.
pub record IsOfOne {T U : Type 0} (does : T → U → Type 0) (items : List T) (result : U) : Type 0 where
  pub item : T
  pub among : Contains items item
  pub done : does item result
