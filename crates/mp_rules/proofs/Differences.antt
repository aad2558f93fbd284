-- The first token whose totals differ is the first that isn't balanced.
use Rattle.std.proofs.Common.{◌≡◌, List, sym, ap, ◌∙◌}
use Rattle.std.specs.Prelude.{None, Some, option_map}
use Rattle.mp_bundle.specs.declared.token.Token.{Token}
use Rattle.mp_bundle.specs.Bundle.{TokenEntry}
use Rattle.mp_bundle.specs.Sum.{Sum, total_of, total_over, IsSumOf, AreAlike, IsFirstDifference}
use Rattle.mp_rules.specs.declared.invalid.Invalid.{Invalid}
use Rattle.mp_rules.specs.declared.invalid.Invalid.TheVariants as rule
use Rattle.mp_rules.specs.FirstFault.{first_unbalanced, token_unbalanced}
use Rattle.mp_rules.proofs.Totals.{alike, differ}

module _ (taken paid : List (List TokenEntry)) (a b : Sum) (all_taken : IsSumOf taken a) (all_paid : IsSumOf paid b) where
  pub none_differs : AreAlike a b → None ≡ option_map (token_unbalanced taken paid) (first_unbalanced taken paid)
  none_differs same = ap (option_map (token_unbalanced taken paid)) (sym (alike taken paid a b all_taken all_paid same))

  pub one_differs : (token : Token) (fault : Invalid) → IsFirstDifference a b token → fault ≡ rule.Unbalanced token.policy token.name (total_of a token) (total_of b token) → Some fault ≡ option_map (token_unbalanced taken paid) (first_unbalanced taken paid)
  one_differs token fault first told =
      ap Some (told ∙ ap (λ n. rule.Unbalanced token.policy token.name n (total_of b token)) (all_taken.totals token) ∙ ap (λ n. rule.Unbalanced token.policy token.name (total_over taken token) n) (all_paid.totals token))
      ∙ ap (option_map (token_unbalanced taken paid)) (sym (differ taken paid a b token all_taken all_paid first))
