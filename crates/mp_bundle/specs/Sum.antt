-- Sums of bundles, token by token.
use Rattle.std.specs.Prelude.{◌≡◌, ◌≢◌, ℕ, ◌+◌, ℤ, pos, ◌+ℤ◌, List, [], ◌∷◌, length}
use Rattle.std.specs.Option.{unwrap_or}
use Rattle.std.specs.FinMap.{FinMap, get}
use Rattle.std.specs.FinMap as finite
use Rattle.std.specs.declared.cmp.Ordering.TheVariants.{Less}
use Rattle.mp_bundle.specs.declared.token.Token.{Token}
use Rattle.mp_bundle.specs.Token.{token, token_cmp}
use Rattle.mp_bundle.specs.Bundle.{TokenEntry, quantity_of}

-- how many bundles were added, and the totals that aren't zero
pub record Sum : Type 0 where
  pub added : ℕ
  pub nonzero : FinMap token_cmp ℤ

-- the sum of no bundles
abbrev pub nothing : Sum
nothing = record { added = 0; nonzero = finite.empty }

-- the total of a token, or 0 if there is none
abbrev pub total_of : Sum → Token → ℤ
total_of sum token = unwrap_or (get sum.nonzero token) (pos 0)

-- new is old with one more bundle
pub record Adds (old : Sum) (bundle : List TokenEntry) (new : Sum) : Type 0 where
  pub added : new.added ≡ old.added + 1
  pub totals : (token : Token) → total_of new token ≡ total_of old token +ℤ quantity_of bundle token

-- new is old with bundles added, one after the other
abbrev pub AddsAll : Sum → List (List TokenEntry) → Sum → Type 0
AddsAll old [] new = new ≡ old
AddsAll old (bundle ∷ bundles) new = (next : Sum) × Adds old bundle next × AddsAll next bundles new

-- the sum of a token's quantities
abbrev pub total_over : List (List TokenEntry) → Token → ℤ
total_over [] token = pos 0
total_over (bundle ∷ bundles) token = quantity_of bundle token +ℤ total_over bundles token

-- what it means to be the sum of these bundles
pub record IsSumOf (bundles : List (List TokenEntry)) (sum : Sum) : Type 0 where
  pub added : sum.added ≡ length bundles
  pub totals : (token : Token) → total_of sum token ≡ total_over bundles token

-- two sums have the same total of each token
abbrev pub AreAlike : Sum → Sum → Type 0
AreAlike a b = (token : Token) → total_of a token ≡ total_of b token

-- the least token whose totals differ
pub record IsFirstDifference (a b : Sum) (token : Token) : Type 0 where
  pub differs : total_of a token ≢ total_of b token
  pub least : (other : Token) → token_cmp other token ≡ Less → total_of a other ≡ total_of b other
