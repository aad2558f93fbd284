-- Reading a script with the depth of each expression instead of its tree.
use Rattle.std.specs.Prelude.{ℕ, suc, List, ◌∷◌, Result, Ok, Err, if◌then◌else◌, nat_le, max}
use Rattle.mp_script.specs.declared.fault.ScriptFault.{ScriptFault}
use Rattle.mp_script.specs.declared.fault.ScriptFault.TheVariants.{Underflow, TooDeep}
use Rattle.mp_bytes.specs.Reading.{◌>>=◌}
use Rattle.mp_script.specs.Operators.{Operator}
use Rattle.mp_script.specs.Operators as op

-- the depth of the deepest operand, or 0 if there is none, and the depths that stay on the stack
abbrev pub deepest : Operator → List ℕ → Result (ℕ × List ℕ) ScriptFault
deepest (op.int n) depths = Ok (0, depths)
deepest (op.bytes b) depths = Ok (0, depths)
deepest (op.nullary o) depths = Ok (0, depths)
deepest (op.on_one o) (a ∷ depths) = Ok (a, depths)
deepest (op.on_two o) (b ∷ a ∷ depths) = Ok (max a b, depths)
deepest (op.on_three o) (c ∷ b ∷ a ∷ depths) = Ok (max a (max b c), depths)
deepest o depths = Err Underflow

abbrev pub put_depth : Operator → List ℕ → Result (List ℕ) ScriptFault
put_depth o depths = deepest o depths >>= λ x. if nat_le (suc x.0) 64 then Ok (suc x.0 ∷ x.1) else Err TooDeep
