-- Laws of bundles and of their sums.
use Rattle.std.specs.Prelude.{◌≡◌, ◌↔◌, List, [], ◌∷◌, ◌++◌, None}
use Rattle.std.specs.List.Sorted.{IsPermutation}
use Rattle.mp_bundle.specs.declared.token.Token.{Token}
use Rattle.mp_bundle.specs.Bundle.{TokenEntry, quantity_of, IsBundle}
use Rattle.mp_bundle.specs.BundleFault.{fault_of}
use Rattle.mp_bundle.specs.Sum.{Sum, nothing, Adds, AddsAll, AreAlike, IsSumOf, IsFirstDifference}

-- entries have no fault exactly when they are the entries of a bundle
abbrev pub FaultlessIsBundle : Type 0
FaultlessIsBundle = (entries : List TokenEntry) → (fault_of entries ≡ None) ↔ IsBundle entries

-- the quantities determine a bundle
abbrev pub QuantitiesDetermine : Type 0
QuantitiesDetermine =
    (a b : List TokenEntry) → IsBundle a → IsBundle b
    → ((token : Token) → quantity_of a token ≡ quantity_of b token) → a ≡ b

-- the total of a token is the sum of its quantities
abbrev pub TotalIsSum : Type 0
TotalIsSum =
    (bundles : List (List TokenEntry)) (sum : Sum) → AddsAll nothing bundles sum → IsSumOf bundles sum

-- adding one more bundle to the sum of n bundles gives the sum of n + 1
abbrev pub OneMore : Type 0
OneMore =
    (bundles : List (List TokenEntry)) (bundle : List TokenEntry) (old new : Sum)
    → IsSumOf bundles old → Adds old bundle new → IsSumOf (bundles ++ bundle ∷ []) new

-- the sum of bundles doesn't depend on their order
abbrev pub OrderIsFree : Type 0
OrderIsFree =
    (bundles others : List (List TokenEntry)) (a b : Sum) → IsPermutation bundles others
    → AddsAll nothing bundles a → AddsAll nothing others b → AreAlike a b

-- two sums have no first difference exactly when all their totals are equal
abbrev pub DifferencesAreFound : Type 0
DifferencesAreFound = (a b : Sum) → ((token : Token) → ¬ IsFirstDifference a b token) ↔ AreAlike a b
