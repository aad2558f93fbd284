-- Bundles that are added one after the other.
use Rattle.std.proofs.Common.{◌≡◌, ℕ, ◌+◌, ◌<◌, ◌≤◌, List, [], ◌∷◌, ◌++◌, length, get_or, take, refl, sym, ap, subst, ◌∙◌, arith}
use Rattle.std.specs.Prelude.{Option, None, Some}
use Rattle.std.specs.List.{filter_map, cons_option}
use Rattle.std.proofs.lemmas.List.{take_more, map-append}
use Rattle.mp_bundle.specs.Bundle.{TokenEntry}
use Rattle.mp_bundle.specs.Sum.{Sum, Adds, AddsAll}
use Rattle.mp_tx.specs.declared.output.Output.{Output}
use Rattle.mp_rules.specs.Resolved.{values}

-- one more bundle, the last
pub AddsAll-push : (bundles : List (List TokenEntry)) (bundle : List TokenEntry) (a b c : Sum) → AddsAll a bundles b → Adds b bundle c → AddsAll a (bundles ++ bundle ∷ []) c
AddsAll-push [] bundle a b c none one = (c, subst (λ s. Adds s bundle c) none one, refl)
AddsAll-push (x ∷ bundles) bundle a b c all one = (all.0, all.1, AddsAll-push bundles bundle all.0 b c all.2 one)

-- the bundle of one more output, the last
pub values-more : (outputs : List Output) (place : ℕ) (o : Output) → place < length outputs → o ≡ get_or outputs place o → values (take (place + 1) outputs) ≡ values (take place outputs) ++ o.value ∷ []
values-more outputs place o lt is =
    ap values (take_more outputs place o lt ∙ ap (λ x. take place outputs ++ x ∷ []) (sym is)) ∙ map-append (λ (x : Output). x.value) (take place outputs) (o ∷ [])

-- a filter doesn't add items
pub filter_map-few : {X Y : Type 0} (h : X → Option Y) (xs : List X) → length (filter_map h xs) ≤ length xs
filter_map-few h [] = omega arith
filter_map-few h (x ∷ xs) = elim (h x) as (λ o. length (cons_option o (filter_map h xs)) ≤ length (x ∷ xs)) [
  | None ↦ let few = filter_map-few h xs in omega arith
  | Some y ↦ let few = filter_map-few h xs in omega arith
]
