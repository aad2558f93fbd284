-- The fault of entries that make no bundle.
use Rattle.std.specs.Prelude.{◌≡◌, ℕ, ◌^◌, ◌-◌, Bool, true, not, ◌||◌, ℤ, pos, neg_ℤ, int_lt, List, [], ◌∷◌, length, map, Option, Some, None, nat_lt, if◌then◌else◌}
use Rattle.std.specs.Option.{option_or}
use Rattle.std.specs.Ordering.{is_lt, int_eq}
use Rattle.std.specs.declared.vec.Vec.{Vec}
use Rattle.mp_bundle.specs.declared.fault.BundleFault.{BundleFault}
use Rattle.mp_bundle.specs.declared.fault.BundleFault.TheVariants.{NoMemory, NotRising, ZeroQuantity, NameTooLong, QuantityRange}
use Rattle.mp_bundle.specs.declared.token.Token.{Token}
use Rattle.mp_bundle.specs.Token.{token_cmp}
use Rattle.mp_bundle.specs.Bundle.{TokenEntry}

-- an entry as it is given: a policy, a name of any length and a quantity
abbrev pub Given : Type 0 → Type 0
Given Z = List ℕ × Vec ℕ Z × ℤ

-- its token, whose name may be too long
abbrev pub token_of : {Z : Type 0} → Given Z → Token
token_of g = record { policy = g.0; name = g.1.items }

-- the entry that it makes, if it has no fault
abbrev pub entry_of : {Z : Type 0} → Given Z → TokenEntry
entry_of g = (token_of g, g.2)

abbrev pub entries_of : {Z : Type 0} → List (Given Z) → List TokenEntry
entries_of gs = map entry_of gs

-- whether a token comes after the one before it, if there is one
abbrev pub follows : Option Token → Token → Bool
follows None token = true
follows (Some before) token = is_lt (token_cmp before token)

-- not from -(2^63 - 1) to 2^63 - 1
unfoldable pub is_out_of_range : ℤ → Bool
is_out_of_range n = int_lt n (neg_ℤ (pos (2 ^ 63 - 1))) || int_lt (pos (2 ^ 63 - 1)) n

-- the fault of an entry, given the token of the entry before: the fault with the least number
abbrev pub entry_fault : Option Token → TokenEntry → Option BundleFault
entry_fault before e =
    if not (follows before e.0) then Some NotRising
    else if int_eq e.1 (pos 0) then Some ZeroQuantity
    else if nat_lt 32 (length e.0.name) then Some NameTooLong
    else if is_out_of_range e.1 then Some QuantityRange
    else None

-- the fault of the first entry that has one
abbrev pub fault_after : Option Token → List TokenEntry → Option BundleFault
fault_after before [] = None
fault_after before (e ∷ es) = option_or (entry_fault before e) (fault_after (Some e.0) es)

abbrev pub fault_of : List TokenEntry → Option BundleFault
fault_of entries = fault_after None entries

-- an answer for these entries; an allocation failure is always possible
abbrev pub IsFaultOf : List TokenEntry → BundleFault → Type 0
IsFaultOf entries NoMemory = Unit {0}
IsFaultOf entries fault = fault_of entries ≡ Some fault

-- the number of each fault
abbrev pub number : BundleFault → ℕ
number NoMemory = 1
number NotRising = 2
number ZeroQuantity = 3
number NameTooLong = 4
number QuantityRange = 5
