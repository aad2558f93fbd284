-- The stack of values, the last one first.
use Rattle.std.specs.Prelude.{◌≡◌, ℕ, List, ◌∷◌, map, Option, None, Some, Ok}
use Rattle.mp_script.specs.Operators.{Operator, int, bytes, nullary, on_one, on_two, on_three}
use Rattle.mp_script.specs.Script.{Tree}
use Rattle.mp_script.specs.ScriptReading.{reads, put}
use Rattle.mp_script.specs.View.{View}
use Rattle.mp_script.specs.Value.{Value, whole, octets}
use Rattle.mp_script.specs.Meaning.{of_leaf, of_one, of_two, of_three, value}

-- the number of operands of an operator
abbrev pub arity : Operator → ℕ
arity (int n) = 0
arity (bytes b) = 0
arity (nullary o) = 0
arity (on_one o) = 1
arity (on_two o) = 2
arity (on_three o) = 3

-- the stack after an operator
abbrev pub acts : View → Operator → List Value → Option (List Value)
acts s (int n) waiting = Some (whole n ∷ waiting)
acts s (bytes b) waiting = Some (octets b ∷ waiting)
acts s (nullary o) waiting = Some (of_leaf o s ∷ waiting)
acts s (on_one o) (a ∷ waiting) = Some (of_one o s a ∷ waiting)
acts s (on_two o) (b ∷ a ∷ waiting) = Some (of_two o s a b ∷ waiting)
acts s (on_three o) (c ∷ b ∷ a ∷ waiting) = Some (of_three o s a b c ∷ waiting)
acts s o waiting = None

-- the values are those of the expressions on the stack before the rest of a script's bytes
pub record Stands (s : View) (script : Tree) (rest : List ℕ) (values : List Value) : Type 0 where
  pub room : ℕ
  pub waiting : List Tree
  pub reading : reads put room waiting rest ≡ Ok script
  pub same : values ≡ map (value s) waiting
