-- Whether two bundles have the same content.
use Rattle.std.specs.Prelude.{Bool, ◌&&◌, List}
use Rattle.std.specs.Ordering.{int_eq}
use Rattle.std.specs.Cmp.{IsEquivalence, on_equiv, and_equiv, int_eq_equiv}
use Rattle.std.specs.Cmp.Lexicographic.{pointwise, lists_equiv, nat_list_eq_equiv}
use Rattle.mp_bundle.specs.Token.{same_token}
use Rattle.mp_bundle.specs.Bundle.{TokenEntry}

abbrev pub same_entry : TokenEntry → TokenEntry → Bool
same_entry a b = same_token a.0 b.0 && int_eq a.1 b.1

abbrev pub same_entries : List TokenEntry → List TokenEntry → Bool
same_entries xs ys = pointwise same_entry xs ys

same_token_equiv : IsEquivalence same_token
same_token_equiv =
    and_equiv (on_equiv (λ t. t.policy) nat_list_eq_equiv)
    (on_equiv (λ t. t.name) nat_list_eq_equiv)

pub same_entries_equiv : IsEquivalence same_entries
same_entries_equiv =
    lists_equiv
    (and_equiv (on_equiv (λ e. e.0) same_token_equiv) (on_equiv (λ e. e.1) int_eq_equiv))
