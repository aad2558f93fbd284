-- Tokens, and their order.
use Rattle.std.specs.Prelude.{ℕ, Bool, ◌&&◌, List, [], length, replicate, nat_eq, nat_le, Option, Some, None, if◌then◌else◌}
use Rattle.std.specs.Ordering.{nat_cmp, ordering_then}
use Rattle.std.specs.Cmp.Lexicographic.{slice_cmp, pointwise}
use Rattle.std.specs.declared.cmp.Ordering.{Ordering}
use Rattle.mp_bundle.specs.declared.token.Token.{Token}

-- the token of a policy and a name
abbrev pub token : List ℕ → List ℕ → Token
token policy name = record { policy = policy; name = name }

-- coin is the token with a policy of zeros and the empty name
abbrev pub coin : Token
coin = token (replicate 32 0) []

-- the token of a policy and a name of at most 32 bytes
abbrev pub short_token : List ℕ → List ℕ → Option Token
short_token policy name = if nat_le (length name) 32 then Some (token policy name) else None

-- by the bytes of the policy, and then by those of the name; a proper prefix is less
abbrev pub token_cmp : Token → Token → Ordering
token_cmp a b =
    ordering_then (slice_cmp nat_cmp a.policy b.policy) (slice_cmp nat_cmp a.name b.name)

-- whether two tokens have the same bytes
abbrev pub same_token : Token → Token → Bool
same_token a b = pointwise nat_eq a.policy b.policy && pointwise nat_eq a.name b.name
