-- The value of a script in a view: one case for each operator.
use Rattle.std.specs.Prelude.{ℕ, ◌^◌, ℤ, pos, negsuc, ◌+ℤ◌, ◌-ℤ◌, ◌*ℤ◌, Bool, true, false, not, List, [], ◌∷◌, length, Option, None, Some, if◌then◌else◌, nat_eq, nat_lt, nat_le, int_lt, int_le, slice_get}
use Rattle.std.specs.Bool.{beq}
use Rattle.std.specs.Ordering.{int_eq}
use Rattle.std.specs.Cmp.Lexicographic.{pointwise}
use Rattle.std.specs.List.{list_any}
use Rattle.std.specs.Option.{option_map, option_and_then}
use Rattle.mp_bundle.specs.declared.token.Token.{Token}
use Rattle.mp_bundle.specs.Token.{token}
use Rattle.mp_bundle.specs.Bundle.{TokenEntry, quantity_of}
use Rattle.mp_script.specs.declared.operator.Leaf.{Leaf}
use Rattle.mp_script.specs.declared.operator.Leaf.TheVariants as code
use Rattle.mp_script.specs.declared.operator.Unary.{Unary}
use Rattle.mp_script.specs.declared.operator.Unary.TheVariants as one
use Rattle.mp_script.specs.declared.operator.Binary.{Binary}
use Rattle.mp_script.specs.declared.operator.Binary.TheVariants as two
use Rattle.mp_script.specs.declared.operator.Ternary.{Ternary}
use Rattle.mp_script.specs.declared.operator.Ternary.TheVariants as three
use Rattle.mp_script.specs.Datum.{Datum, spelling, number_in, octets_in, length_in, item_in}
use Rattle.mp_script.specs.Script.{Tree, int, bytes, leaf, unary, binary, ternary}
use Rattle.mp_script.specs.View.{View, PaidTo, Referred}
use Rattle.mp_script.specs.Value.{Value, nothing, truth, whole, octets, tree}

-- ---- kinds

abbrev pub truth_in : Value → Option Bool
truth_in (truth b) = Some b
truth_in _ = None

abbrev pub datum_in : Value → Option Datum
datum_in (tree d) = Some d
datum_in _ = None

-- an index into a list: a number from 0 to 2^64 - 1
abbrev pub place_in : Value → Option ℕ
place_in (whole (pos n)) = if nat_lt n (2 ^ 64) then Some n else None
place_in _ = None

-- a function of the value that is there, or Nothing if there is none
abbrev pub on : {A : Type 0} → Option A → (A → Value) → Value
on None f = nothing
on (Some a) f = f a

-- two whole numbers
abbrev pub wholes_in : Value → Value → Option (ℤ × ℤ)
wholes_in (whole a) (whole b) = Some (a, b)
wholes_in _ _ = None

abbrev pub on_wholes : (ℤ → ℤ → Value) → Value → Value → Value
on_wholes f a b = on (wholes_in a b) (λ p. f p.0 p.1)

-- ---- truth

abbrev pub negation : Value → Value
negation a = on (truth_in a) (λ b. truth (not b))

-- Kleene's conjunction: what is no truth value counts as Nothing
abbrev pub conjunction : Option Bool → Option Bool → Value
conjunction (Some false) b = truth false
conjunction (Some true) (Some b) = truth b
conjunction (Some true) None = nothing
conjunction None (Some false) = truth false
conjunction None (Some true) = nothing
conjunction None None = nothing

-- Kleene's disjunction
abbrev pub disjunction : Option Bool → Option Bool → Value
disjunction (Some true) b = truth true
disjunction (Some false) (Some b) = truth b
disjunction (Some false) None = nothing
disjunction None (Some true) = truth true
disjunction None (Some false) = nothing
disjunction None None = nothing

abbrev pub choice : Option Bool → Value → Value → Value
choice (Some true) a b = a
choice (Some false) a b = b
choice None a b = nothing

-- two data are the same if their bytes are
abbrev pub same_datum : Datum → Datum → Bool
same_datum d e = pointwise nat_eq (spelling d) (spelling e)

-- whether two values of the same kind are equal
abbrev pub equality : Value → Value → Value
equality (truth a) (truth b) = truth (beq a b)
equality (whole a) (whole b) = truth (int_eq a b)
equality (octets a) (octets b) = truth (pointwise nat_eq a b)
equality (tree a) (tree b) = truth (same_datum a b)
equality _ _ = nothing

-- ---- numbers

-- a number of up to 128 bits, in two's complement
abbrev pub fits : ℤ → Bool
fits (pos n) = nat_lt n (2 ^ 127)
fits (negsuc n) = nat_lt n (2 ^ 127)

abbrev pub number : ℤ → Value
number n = if fits n then whole n else nothing

-- ---- tokens

-- 32 bytes: a key, a policy or an address
abbrev pub hash_in : Value → Option (List ℕ)
hash_in (octets b) = if nat_eq (length b) 32 then Some b else None
hash_in _ = None

abbrev pub name_in : Value → Option (List ℕ)
name_in (octets b) = if nat_le (length b) 32 then Some b else None
name_in _ = None

abbrev pub token_in : Value → Value → Option Token
token_in p n = option_and_then (λ policy. option_map (token policy) (name_in n)) (hash_in p)

-- the quantity of a token
abbrev pub amount : Option Token → (Token → ℤ) → Value
amount t quantity = on t (λ t. whole (quantity t))

-- the quantity of a token in a bundle
abbrev pub bundle_quantity : List TokenEntry → Value → Value → Value
bundle_quantity bundle p n = amount (token_in p n) (quantity_of bundle)

-- the quantity of a token that an output pays to an address
abbrev pub paid_by : PaidTo → List ℕ → Token → ℤ
paid_by o address t = if pointwise nat_eq o.address address then quantity_of o.bundle t else pos 0

-- the quantity of a token that the outputs pay to an address
abbrev pub paid_to : List ℕ → Token → List PaidTo → ℤ
paid_to address t [] = pos 0
paid_to address t (o ∷ outputs) = paid_by o address t +ℤ paid_to address t outputs

-- the same for an address and a token that are values
abbrev pub paid_quantity : List PaidTo → Value → Value → Value → Value
paid_quantity outputs x p n = on (hash_in x) (λ address. amount (token_in p n) (λ t. paid_to address t outputs))

-- ---- data

-- the datum at an index of a list
abbrev pub list_item : Value → Value → Option Datum
list_item d n = option_and_then (λ list. option_and_then (item_in list) (place_in n)) (datum_in d)

-- ---- keys

-- whether a key is among those that have signed
abbrev pub has_signed : List (List ℕ) → List ℕ → Bool
has_signed keys key = list_any (λ k. pointwise nat_eq k key) keys

-- ---- references

abbrev pub reference_at : List Referred → Value → Option Referred
reference_at references n = option_and_then (λ place. slice_get references place) (place_in n)

-- the quantity of a token in the output that a reference names
abbrev pub ref_quantity : List Referred → Value → Value → Value → Value
ref_quantity references n p name = on (reference_at references n) (λ r. bundle_quantity r.bundle p name)

-- ---- by the operator

abbrev pub of_leaf : Leaf → View → Value
of_leaf code.False s = truth false
of_leaf code.True s = truth true
of_leaf code.Datum s = on s.datum tree
of_leaf code.Redeemer s = on s.redeemer tree
of_leaf code.OwnHash s = octets s.own_hash
of_leaf code.From s = whole (pos s.from)
of_leaf code.To s = whole (pos s.to)
of_leaf code.OutputCount s = whole (pos (length s.outputs))
of_leaf code.RefCount s = whole (pos (length s.references))

abbrev pub of_one : Unary → View → Value → Value
of_one one.Not s a = negation a
of_one one.AsInt s d = on (option_and_then number_in (datum_in d)) whole
of_one one.AsBytes s d = on (option_and_then octets_in (datum_in d)) octets
of_one one.Length s d = on (option_and_then length_in (datum_in d)) (λ n. whole (pos n))
of_one one.SignedBy s k = on (hash_in k) (λ key. truth (has_signed s.keys key))
of_one one.RefAddress s n = on (reference_at s.references n) (λ r. octets r.address)
of_one one.RefDatumHash s n = on (reference_at s.references n) (λ r. octets r.datum_hash)

abbrev pub of_two : Binary → View → Value → Value → Value
of_two two.And s a b = conjunction (truth_in a) (truth_in b)
of_two two.Or s a b = disjunction (truth_in a) (truth_in b)
of_two two.Eq s a b = equality a b
of_two two.Less s a b = on_wholes (λ x y. truth (int_lt x y)) a b
of_two two.AtMost s a b = on_wholes (λ x y. truth (int_le x y)) a b
of_two two.Add s a b = on_wholes (λ x y. number (x +ℤ y)) a b
of_two two.Sub s a b = on_wholes (λ x y. number (x -ℤ y)) a b
of_two two.Mul s a b = on_wholes (λ x y. number (x *ℤ y)) a b
of_two two.Item s d n = on (list_item d n) tree
of_two two.OwnQuantity s p n = on s.own_value (λ bundle. bundle_quantity bundle p n)
of_two two.Spent s p n = amount (token_in p n) s.spent
of_two two.Forged s p n = bundle_quantity s.forge p n

abbrev pub of_three : Ternary → View → Value → Value → Value → Value
of_three three.If s c a b = choice (truth_in c) a b
of_three three.Paid s x p n = paid_quantity s.outputs x p n
of_three three.RefQuantity s n p name = ref_quantity s.references n p name

-- the value of a script
abbrev pub value : View → Tree → Value
value s (int n) = whole n
value s (bytes b) = octets b
value s (leaf o) = of_leaf o s
value s (unary o a) = of_one o s (value s a)
value s (binary o a b) = of_two o s (value s a) (value s b)
value s (ternary o a b c) = of_three o s (value s a) (value s b) (value s c)
