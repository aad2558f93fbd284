-- What a sum stores: a total for each token that was added, including totals of zero.
use Rattle.std.specs.Prelude.{◌≡◌, ◌-◌, ◌^◌, not, ℤ, pos, ◌+ℤ◌, List, [], ◌∷◌, Option, Some, None, if◌then◌else◌, All}
use Rattle.std.specs.FinMap.{FinMap, empty, insert, remove}
use Rattle.std.specs.Ordering.{eq_by_cmp, int_eq, is_lt}
use Rattle.std.specs.BTreeMap.{BTreeMap, ContainsKey}
use Rattle.mp_bundle.specs.declared.token.Token.{Token}
use Rattle.mp_bundle.specs.Token.{token_cmp}
use Rattle.mp_bundle.specs.Bundle.{TokenEntry, IsWithin, quantity_of}

-- the totals that aren't zero, as a map
abbrev pub nonzero_of : List TokenEntry → FinMap token_cmp ℤ
nonzero_of [] = empty
nonzero_of (e ∷ es) =
    if int_eq e.1 (pos 0) then remove (nonzero_of es) e.0
    else insert (nonzero_of es) e.0 e.1

-- there is a total for the token of each entry
abbrev pub HasRoom : BTreeMap Token ℤ → List TokenEntry → Type 0
HasRoom totals entries = All (λ e. ContainsKey token_cmp totals e.0) entries

-- each key of old is one of new
abbrev pub KeepsRoom : BTreeMap Token ℤ → BTreeMap Token ℤ → Type 0
KeepsRoom old new =
    (token : Token) → ContainsKey token_cmp old token → ContainsKey token_cmp new token

-- new keeps each total of old, and may have more that are zero
pub record KeepsTotals (old new : BTreeMap Token ℤ) : Type 0 where
  pub same : (token : Token) → quantity_of new.entries token ≡ quantity_of old.entries token
  pub room : KeepsRoom old new

-- new is old with a number added to the total of a token
abbrev pub RaisesAt : BTreeMap Token ℤ → Token → ℤ → BTreeMap Token ℤ → Type 0
RaisesAt old token by new =
    (other : Token) → quantity_of new.entries other
    ≡ quantity_of old.entries other +ℤ (if eq_by_cmp token_cmp token other then by else pos 0)

-- new is old with each quantity of the entries added
abbrev pub RaisesAll : BTreeMap Token ℤ → List TokenEntry → BTreeMap Token ℤ → Type 0
RaisesAll old entries new =
    (token : Token) → quantity_of new.entries token
    ≡ quantity_of old.entries token +ℤ quantity_of entries token

-- with each quantity of the entries added, each total fits 128 bits
abbrev pub HasSpan : BTreeMap Token ℤ → List TokenEntry → Type 0
HasSpan totals entries =
    (token : Token)
    → IsWithin (2 ^ 127 - 1) (quantity_of totals.entries token +ℤ quantity_of entries token)

-- the first token whose total differs in the others
abbrev pub first_unlike : List TokenEntry → List TokenEntry → Option Token
first_unlike [] others = None
first_unlike (e ∷ es) others =
    if not (int_eq (quantity_of others e.0) e.1) then Some e.0 else first_unlike es others

-- the lesser of two tokens, either of which may be missing
abbrev pub lesser : Option Token → Option Token → Option Token
lesser None b = b
lesser (Some a) None = Some a
lesser (Some a) (Some b) = if is_lt (token_cmp b a) then Some b else Some a
