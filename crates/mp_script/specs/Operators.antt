-- The operators of scripts, by the number of their operands, and the byte of each.
use Rattle.std.specs.Prelude.{ℕ, ℤ, List, [], ◌∷◌, Option, None, Some, if◌then◌else◌, nat_eq}
use Rattle.mp_script.specs.declared.operator.Leaf.{Leaf}
use Rattle.mp_script.specs.declared.operator.Leaf.TheVariants as leaf
use Rattle.mp_script.specs.declared.operator.Unary.{Unary}
use Rattle.mp_script.specs.declared.operator.Unary.TheVariants as unary
use Rattle.mp_script.specs.declared.operator.Binary.{Binary}
use Rattle.mp_script.specs.declared.operator.Binary.TheVariants as binary
use Rattle.mp_script.specs.declared.operator.Ternary.{Ternary}
use Rattle.mp_script.specs.declared.operator.Ternary.TheVariants as ternary
use Rattle.mp_script.specs.declared.operator.Operator as code
use Rattle.mp_script.specs.declared.operator.Operator.TheVariants as variant

abbrev pub leaf_code : Leaf → ℕ
leaf_code leaf.False = 0x00
leaf_code leaf.True = 0x01
leaf_code leaf.Datum = 0x04
leaf_code leaf.Redeemer = 0x05
leaf_code leaf.OwnHash = 0x06
leaf_code leaf.From = 0x50
leaf_code leaf.To = 0x51
leaf_code leaf.OutputCount = 0x57
leaf_code leaf.RefCount = 0x60

abbrev pub unary_code : Unary → ℕ
unary_code unary.Not = 0x10
unary_code unary.AsInt = 0x40
unary_code unary.AsBytes = 0x41
unary_code unary.Length = 0x43
unary_code unary.SignedBy = 0x52
unary_code unary.RefAddress = 0x61
unary_code unary.RefDatumHash = 0x62

abbrev pub binary_code : Binary → ℕ
binary_code binary.And = 0x11
binary_code binary.Or = 0x12
binary_code binary.Eq = 0x20
binary_code binary.Less = 0x21
binary_code binary.AtMost = 0x22
binary_code binary.Add = 0x30
binary_code binary.Sub = 0x31
binary_code binary.Mul = 0x32
binary_code binary.Item = 0x42
binary_code binary.OwnQuantity = 0x53
binary_code binary.Spent = 0x54
binary_code binary.Forged = 0x55

abbrev pub ternary_code : Ternary → ℕ
ternary_code ternary.If = 0x13
ternary_code ternary.Paid = 0x56
ternary_code ternary.RefQuantity = 0x63

-- the first that has this byte
abbrev pub with_code : {A : Type 0} → (A → ℕ) → List A → ℕ → Option A
with_code code_of [] code = None
with_code code_of (a ∷ more) code = if nat_eq code (code_of a) then Some a else with_code code_of more code

abbrev pub leaves : List Leaf
leaves = leaf.False ∷ leaf.True ∷ leaf.Datum ∷ leaf.Redeemer ∷ leaf.OwnHash ∷ leaf.From ∷ leaf.To ∷ leaf.OutputCount ∷ leaf.RefCount ∷ []

abbrev pub leaf_of : ℕ → Option Leaf
leaf_of = with_code leaf_code leaves

abbrev pub unaries : List Unary
unaries = unary.Not ∷ unary.AsInt ∷ unary.AsBytes ∷ unary.Length ∷ unary.SignedBy ∷ unary.RefAddress ∷ unary.RefDatumHash ∷ []

abbrev pub unary_of : ℕ → Option Unary
unary_of = with_code unary_code unaries

abbrev pub binaries : List Binary
binaries = binary.And ∷ binary.Or ∷ binary.Eq ∷ binary.Less ∷ binary.AtMost ∷ binary.Add ∷ binary.Sub ∷ binary.Mul ∷ binary.Item ∷ binary.OwnQuantity ∷ binary.Spent ∷ binary.Forged ∷ []

abbrev pub binary_of : ℕ → Option Binary
binary_of = with_code binary_code binaries

abbrev pub ternaries : List Ternary
ternaries = ternary.If ∷ ternary.Paid ∷ ternary.RefQuantity ∷ []

abbrev pub ternary_of : ℕ → Option Ternary
ternary_of = with_code ternary_code ternaries

-- an operator, with its further bytes
pub data Operator : Type 0 where
  int : ℤ → Operator
  bytes : List ℕ → Operator
  nullary : Leaf → Operator
  on_one : Unary → Operator
  on_two : Binary → Operator
  on_three : Ternary → Operator

-- an operator, as contracts see it
abbrev pub operator_of : code.Operator → Operator
operator_of (variant.Int n) = int n
operator_of (variant.Bytes b) = bytes b.now
operator_of (variant.Leaf o) = nullary o
operator_of (variant.Unary o) = on_one o
operator_of (variant.Binary o) = on_two o
operator_of (variant.Ternary o) = on_three o
