-- Script trees, and the bytes that spell them: the operands in order, and then the operator.
use Rattle.std.specs.Prelude.{◌≡◌, ℕ, suc, ◌+◌, ◌<◌, ◌≤◌, ◌^◌, ℤ, List, [], ◌∷◌, ◌++◌, length, max}
use Rattle.std.specs.Int.{w64, to_be_bytes, cast_unsigned}
use Rattle.std.specs.Int.RustNames.{FitsSigned}
use Rattle.mp_script.specs.declared.operator.Leaf.{Leaf}
use Rattle.mp_script.specs.declared.operator.Unary.{Unary}
use Rattle.mp_script.specs.declared.operator.Binary.{Binary}
use Rattle.mp_script.specs.declared.operator.Ternary.{Ternary}
use Rattle.mp_script.specs.Operators.{leaf_code, unary_code, binary_code, ternary_code}

pub data Tree : Type 0 where
  int : ℤ → Tree
  bytes : List ℕ → Tree
  leaf : Leaf → Tree
  unary : Unary → Tree → Tree
  binary : Binary → Tree → Tree → Tree
  ternary : Ternary → Tree → Tree → Tree → Tree

-- a leaf has depth 1; the depth of another operator is one more than that of its deepest operand
abbrev pub depth : Tree → ℕ
depth (int n) = 1
depth (bytes b) = 1
depth (leaf o) = 1
depth (unary o a) = suc (depth a)
depth (binary o a b) = suc (max (depth a) (depth b))
depth (ternary o a b c) = suc (max (depth a) (max (depth b) (depth c)))

-- the number of operators
abbrev pub size : Tree → ℕ
size (int n) = 1
size (bytes b) = 1
size (leaf o) = 1
size (unary o a) = suc (size a)
size (binary o a b) = suc (size a + size b)
size (ternary o a b c) = suc (size a + size b + size c)

-- numbers have 64 bits; there are at most 255 bytes
abbrev pub Fits : Tree → Type 0
Fits (int n) = FitsSigned w64 n
Fits (bytes b) = length b < 2 ^ 8
Fits (leaf o) = Unit {0}
Fits (unary o a) = Fits a
Fits (binary o a b) = Fits a × Fits b
Fits (ternary o a b c) = Fits a × Fits b × Fits c

-- Int has its number in 8 bytes, in two's complement; Bytes has a 1-byte length and that many bytes
abbrev pub spelling : Tree → List ℕ
spelling (int n) = 2 ∷ to_be_bytes w64 (cast_unsigned w64 n)
spelling (bytes b) = 3 ∷ length b ∷ b
spelling (leaf o) = leaf_code o ∷ []
spelling (unary o a) = spelling a ++ unary_code o ∷ []
spelling (binary o a b) = spelling a ++ spelling b ++ binary_code o ∷ []
spelling (ternary o a b c) = spelling a ++ spelling b ++ spelling c ++ ternary_code o ∷ []

-- the text spells the script
pub record Spells (text : List ℕ) (tree : Tree) : Type 0 where
  pub fits : Fits tree
  pub short : size tree ≤ 1024
  pub shallow : depth tree ≤ 64
  pub spelled : text ≡ spelling tree

-- the text spells a script
abbrev pub IsScript : List ℕ → Type 0
IsScript text = (tree : Tree) × Spells text tree
