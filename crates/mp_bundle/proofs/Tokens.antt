-- The order of tokens, and when two are the same.
use Rattle.std.proofs.Common.{◌≡◌, ℕ, List, nat_eq, ap}
use Rattle.std.specs.Prelude.{Decides}
use Rattle.std.specs.Ordering.{nat_cmp}
use Rattle.std.specs.Cmp.{IsTotalOrder, then_total, on_total}
use Rattle.std.specs.Cmp.Lexicographic.{pointwise, slice_cmp, nat_list_cmp_total, bytes_decides}
use Rattle.std.specs.FinMap.{IsAntisymmetric}
use Rattle.std.proofs.lemmas.Map.Lookups.{exact_pairs, exact_bytes}
use Rattle.std.proofs.lemmas.Bool.Decides.{Decides-and, Decides-like}
use Rattle.mp_bundle.specs.declared.token.Token.{Token}
use Rattle.mp_bundle.specs.Token.{token, token_cmp, same_token}

pub token_total : IsTotalOrder token_cmp
token_total = then_total (on_total (λ t. t.policy) nat_list_cmp_total) (on_total (λ t. t.name) nat_list_cmp_total)

-- tokens that compare equal are equal
pub token_exact : IsAntisymmetric token_cmp
token_exact a b e = ap (λ (p : List ℕ × List ℕ). token p.0 p.1) (exact_pairs (slice_cmp nat_cmp) (slice_cmp nat_cmp) exact_bytes exact_bytes (a.policy, a.name) (b.policy, b.name) e)

pub same_token-Decides : (a b : Token) → Decides (same_token a b) (a ≡ b)
same_token-Decides a b =
    Decides-like (same_token a b) (λ h i. token (h.0 i) (h.1 i)) (λ e. (ap (λ t. t.policy) e, ap (λ t. t.name) e))
    (Decides-and (pointwise nat_eq a.policy b.policy) (pointwise nat_eq a.name b.name) (bytes_decides a.policy b.policy) (bytes_decides a.name b.name))
