-- The value of an expression.
use Rattle.std.specs.Prelude.{ℕ, ℤ, Bool, List}
use Rattle.mp_script.specs.declared.value.Value as code
use Rattle.mp_script.specs.declared.value.Value.TheVariants as variant
use Rattle.mp_script.specs.Datum.{Datum}
use Rattle.mp_script.specs.DataReading.{tree_of}

pub data Value : Type 0 where
  nothing : Value
  truth : Bool → Value
  whole : ℤ → Value
  octets : List ℕ → Value
  tree : Datum → Value

-- a value, as contracts see it
abbrev pub value_of : code.Value → Value
value_of variant.Nothing = nothing
value_of (variant.Truth b) = truth b
value_of (variant.Whole n) = whole n
value_of (variant.Octets b) = octets b.now
value_of (variant.Tree part) = tree (tree_of part)
