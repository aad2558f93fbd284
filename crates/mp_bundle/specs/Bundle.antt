-- A bundle: the quantity of each token (token bundles of Chakravarty et al., Native Custom Tokens in the Extended UTXO
-- Model).
use Rattle.std.specs.Prelude.{◌≡◌, ◌≢◌, ℕ, ◌^◌, ◌-◌, ◌≤◌, ℤ, pos, neg_ℤ, ◌≤ℤ◌, List, ◌∷◌, length, IsTrue, if◌then◌else◌}
use Rattle.std.specs.Option.{unwrap_or}
use Rattle.std.specs.List.{AllByRecursion}
use Rattle.std.specs.Ordering.{int_eq}
use Rattle.std.specs.FinMap.{find, is_sorted}
use Rattle.mp_bundle.specs.declared.token.Token.{Token}
use Rattle.mp_bundle.specs.Token.{coin, token_cmp}

-- a token and its quantity
abbrev pub TokenEntry : Type 0
TokenEntry = Token × ℤ

-- the quantity of a token, or 0 if there is none
abbrev pub quantity_of : List TokenEntry → Token → ℤ
quantity_of entries token = unwrap_or (find token_cmp token entries) (pos 0)

-- a quantity of coin, and then entries of other tokens
abbrev pub with_coin : ℤ → List TokenEntry → List TokenEntry
with_coin n others = if int_eq n (pos 0) then others else (coin, n) ∷ others

-- entries are a quantity of coin, and others whose tokens are greater than coin
pub record SplitsCoin (entries : List TokenEntry) (quantity : ℤ) (others : List TokenEntry) : Type 0 where
  pub rising : IsTrue (is_sorted token_cmp ((coin, quantity) ∷ others))
  pub same : (token : Token)
      → quantity_of ((coin, quantity) ∷ others) token ≡ quantity_of entries token

-- from -most to most
pub record IsWithin (most : ℕ) (n : ℤ) : Type 0 where
  pub least : neg_ℤ (pos most) ≤ℤ n
  pub greatest : n ≤ℤ pos most

-- which entries a bundle may have
pub record IsEntry (e : TokenEntry) : Type 0 where
  pub short : length e.0.name ≤ 32
  pub nonzero : e.1 ≢ pos 0
  pub within : IsWithin (2 ^ 63 - 1) e.1

-- each token is less than the next, so none occurs twice
pub record IsBundle (entries : List TokenEntry) : Type 0 where
  pub rising : IsTrue (is_sorted token_cmp entries)
  pub each : AllByRecursion IsEntry entries
