-- What a sum stores, and its view.
use Rattle.std.specs.Prelude.{◌≡◌, ◌-◌, ◌*◌, ◌^◌, ◌<◌, ◌≤◌, false, pos, List, ◌∷◌, length}
use Rattle.std.specs.Ordering.{is_lt}
use Rattle.mp_bundle.specs.declared.sum.Sum.TheInside.{Inside}
use Rattle.mp_bundle.specs.declared.token.Token.{Token}
use Rattle.mp_bundle.specs.Token.{coin, token_cmp}
use Rattle.mp_bundle.specs.Bundle.{TokenEntry, IsWithin, quantity_of}
use Rattle.mp_bundle.specs.Sum.{Sum}
use Rattle.mp_bundle.specs.Inside.Totals.{nonzero_of}

-- the total of coin, and the others
abbrev pub totals_of : Inside → List TokenEntry
totals_of s = (coin, s.coin) ∷ s.totals.entries

abbrev pub sum_of : Inside → Sum
sum_of s = record { added = s.added; nonzero = nonzero_of (totals_of s) }

-- the totals of at most 2^32 bundles: each fits, a token with a long name has none, and the other tokens are greater
-- than coin
pub record IsHeld (s : Inside) : Type 0 where
  pub few : s.added ≤ 2 ^ 32
  pub within : (token : Token)
      → IsWithin (s.added * (2 ^ 63 - 1)) (quantity_of (totals_of s) token)
  pub short : (token : Token) → 32 < length token.name → quantity_of (totals_of s) token ≡ pos 0
  pub above : (token : Token)
      → is_lt (token_cmp coin token) ≡ false → quantity_of s.totals.entries token ≡ pos 0
