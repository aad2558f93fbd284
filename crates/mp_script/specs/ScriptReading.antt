-- Reading a script: the operators from the left, each applied to the expressions on the stack, or the first fault.
use Rattle.std.specs.Prelude.{◌≡◌, ◌⊎◌, ℕ, zero, suc, List, [], ◌∷◌, Option, None, Some, Result, Ok, Err, if◌then◌else◌, nat_eq, nat_le}
use Rattle.std.specs.Option.{option_map}
use Rattle.mp_script.specs.declared.fault.ScriptFault.{ScriptFault}
use Rattle.mp_script.specs.declared.fault.ScriptFault.TheVariants.{NoMemory, Truncated, BadOperator, Underflow, NotOneExpression, TooLong, TooDeep}
use Rattle.mp_bytes.specs.Fields.{number_at, run_at}
use Rattle.mp_bytes.specs.Reading.{◌>>=◌, or_fault}
use Rattle.mp_script.specs.Operators.{Operator, leaf_of, unary_of, binary_of, ternary_of}
use Rattle.mp_script.specs.Operators as op
use Rattle.mp_script.specs.Script.{Tree, int, bytes, leaf, unary, binary, ternary, depth, IsScript}

abbrev pub or_else : Option Operator → Result Operator ScriptFault → Result Operator ScriptFault
or_else None other = other
or_else (Some o) other = Ok o

-- the operator of a byte that has no further bytes
unfoldable pub plain_of : ℕ → Result Operator ScriptFault
plain_of code =
    or_else (option_map op.nullary (leaf_of code))
    (or_else (option_map op.on_one (unary_of code))
    (or_else (option_map op.on_two (binary_of code))
    (or_else (option_map op.on_three (ternary_of code)) (Err BadOperator))))

unfoldable pub int_read : List ℕ → Result (Operator × List ℕ) ScriptFault
int_read text = do
  n ← or_fault Truncated (number_at text)
  Ok (op.int n.0, n.1)

unfoldable pub bytes_read : List ℕ → Result (Operator × List ℕ) ScriptFault
bytes_read [] = Err Truncated
bytes_read (len ∷ text) = do
  run ← or_fault Truncated (run_at len text)
  Ok (op.bytes run.0, run.1)

-- the operator at the front, and the bytes after it
unfoldable pub operator_read : List ℕ → Result (Operator × List ℕ) ScriptFault
operator_read [] = Err Truncated
operator_read (code ∷ text) =
    if nat_eq code 2 then int_read text
    else if nat_eq code 3 then bytes_read text
    else plain_of code >>= λ o. Ok (o, text)

-- the only expression on the stack
abbrev pub alone : {W : Type 0} → List W → Result W ScriptFault
alone [] = Err NotOneExpression
alone (w ∷ []) = Ok w
alone (w ∷ v ∷ waiting) = Err NotOneExpression

-- at most n operators, each of which replaces its operands on the stack, the last one first
abbrev pub reads : {W : Type 0} → (Operator → List W → Result (List W) ScriptFault) → ℕ → List W → List ℕ → Result W ScriptFault
reads put room waiting [] = alone waiting
reads put zero waiting (code ∷ text) = operator_read (code ∷ text) >>= λ o. Err TooLong
reads put (suc room) waiting (code ∷ text) = do
  o ← operator_read (code ∷ text)
  next ← put o.0 waiting
  reads put room next o.1

-- the expression that an operator makes of the top of the stack, and what stays on it
abbrev pub made : Operator → List Tree → Result (Tree × List Tree) ScriptFault
made (op.int n) waiting = Ok (int n, waiting)
made (op.bytes b) waiting = Ok (bytes b, waiting)
made (op.nullary o) waiting = Ok (leaf o, waiting)
made (op.on_one o) (a ∷ waiting) = Ok (unary o a, waiting)
made (op.on_two o) (b ∷ a ∷ waiting) = Ok (binary o a b, waiting)
made (op.on_three o) (c ∷ b ∷ a ∷ waiting) = Ok (ternary o a b c, waiting)
made o waiting = Err Underflow

-- the expression goes on the stack, if its depth is at most 64
abbrev pub put : Operator → List Tree → Result (List Tree) ScriptFault
put o waiting = made o waiting >>= λ x. if nat_le (depth x.0) 64 then Ok (x.0 ∷ x.1) else Err TooDeep

-- the script that the text spells, or the first fault
abbrev pub script_of : List ℕ → Result Tree ScriptFault
script_of text = reads put 1024 [] text

-- the fault is the first one; if there is none, it is an allocation failure
abbrev pub IsFaultOf : List ℕ → ScriptFault → Type 0
IsFaultOf text fault = (script_of text ≡ Err fault) ⊎ ((fault ≡ NoMemory) × IsScript text)
