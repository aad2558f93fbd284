-- Bundles, as words write them.
use Rattle.std.specs.Prelude.{ℕ, ℤ, pos, neg_ℤ, ◌&&◌, ◌==◌, Bool, nat_eq, nat_lt, nat_le, List, [], ◌∷◌, length, replicate, codes, is_none, Option, None, Some, option_map, option_and_then, if◌then◌else◌}
use Rattle.std.specs.List.{list_all, slice_split}
use Rattle.std.specs.Cmp.Lexicographic.{pointwise}
use Rattle.sha2.specs.Sha256.{sha256}
use Rattle.mp_text.specs.Names.{is_letter_or_digit}
use Rattle.mp_text.specs.Numbers.{quantity_of}
use Rattle.mp_bundle.specs.declared.token.Token.{Token}
use Rattle.mp_bundle.specs.Token.{token, coin}
use Rattle.mp_bundle.specs.Bundle.{TokenEntry}
use Rattle.mp_bundle.specs.BundleFault.{fault_of}
use Rattle.mp_names.specs.Splitting.{split_once}
use Rattle.mp_names.specs.Rising.{entry_cmp, insert_rising}
use Rattle.mp_names.specs.Names.{Names, script_named}

-- the policy of coin is zeros; any other is the hash of a script
abbrev pub policy_named : Names → List ℕ → Option (List ℕ)
policy_named names word = if pointwise nat_eq word (codes "coin") then Some (replicate 32 0) else option_map sha256 (script_named word names)

-- 1 to 32 lower-case letters or digits
abbrev pub is_token_name : List ℕ → Bool
is_token_name word = nat_lt 0 (length word) && nat_le (length word) 32 && list_all is_letter_or_digit word

-- a quantity, with or without a leading `-` (45)
abbrev pub signed_quantity_of : List ℕ → Option ℤ
signed_quantity_of [] = None
signed_quantity_of (b ∷ bytes) =
    if b == 45 then option_map (λ n. neg_ℤ (pos n)) (quantity_of bytes)
    else option_map pos (quantity_of (b ∷ bytes))

-- POLICY, for the token without a name, or POLICY.TOKEN
abbrev pub token_by : Names → List ℕ → Option (List ℕ) → Option Token
token_by names policy None = option_map (λ p. token p []) (policy_named names policy)
token_by names policy (Some name) = if is_token_name name then option_map (λ p. token p name) (policy_named names policy) else None

-- without a token, coin is meant; 46 is the dot
abbrev pub token_of : Names → Option (List ℕ) → Option Token
token_of names None = Some coin
token_of names (Some word) = token_by names (split_once 46 word).0 (split_once 46 word).1

-- Q, Q*POLICY or Q*POLICY.TOKEN; 42 is the star
abbrev pub entry_by : Option ℤ → Option Token → Option TokenEntry
entry_by (Some q) (Some t) = Some (t, q)
entry_by (Some q) None = None
entry_by None t = None

unfoldable pub entry_of : Names → List ℕ → Option TokenEntry
entry_of names word = entry_by (signed_quantity_of (split_once 42 word).0) (token_of names (split_once 42 word).1)

abbrev pub put_entries : Names → List TokenEntry → List (List ℕ) → Option (List TokenEntry)
put_entries names entries [] = Some entries
put_entries names entries (word ∷ words) = option_and_then (λ e. put_entries names (insert_rising entry_cmp e entries) words) (entry_of names word)

-- no token occurs twice
abbrev pub bundle_by : List TokenEntry → Option (List TokenEntry)
bundle_by entries = if is_none (fault_of entries) then Some entries else None

-- entries in any order, separated by commas (44), or `-` for none
unfoldable pub bundle_of : Names → List ℕ → Option (List TokenEntry)
bundle_of names word =
    if pointwise nat_eq word (codes "-") then Some []
    else option_and_then bundle_by (put_entries names [] (slice_split (λ b. b == 44) word))
