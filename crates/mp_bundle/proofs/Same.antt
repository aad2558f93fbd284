-- Bundles with the same content are equal.
use Rattle.std.proofs.Common.{◌≡◌, List, ap}
use Rattle.std.specs.Prelude.{Decides}
use Rattle.std.specs.Ordering.{int_eq}
use Rattle.std.specs.Cmp.{signed_Decides}
use Rattle.std.specs.Cmp.Lexicographic.{pointwise_decides}
use Rattle.std.proofs.lemmas.Bool.Decides.{Decides-and, Decides-like}
use Rattle.mp_bundle.specs.Token.{same_token}
use Rattle.mp_bundle.specs.Bundle.{TokenEntry}
use Rattle.mp_bundle.specs.Same.{same_entry, same_entries}
use Rattle.mp_bundle.proofs.Tokens.{same_token-Decides}

same_entry-Decides : (a b : TokenEntry) → Decides (same_entry a b) (a ≡ b)
same_entry-Decides a b =
    Decides-like (same_entry a b) (λ h i. (h.0 i, h.1 i)) (λ e. (ap (λ (x : TokenEntry). x.0) e, ap (λ (x : TokenEntry). x.1) e))
    (Decides-and (same_token a.0 b.0) (int_eq a.1 b.1) (same_token-Decides a.0 b.0) (signed_Decides a.1 b.1))

pub same_entries-Decides : (xs ys : List TokenEntry) → Decides (same_entries xs ys) (xs ≡ ys)
same_entries-Decides xs ys = pointwise_decides same_entry-Decides xs ys
