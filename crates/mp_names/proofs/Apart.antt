-- Outputs with distinct references.
use Rattle.std.proofs.Common.{◌≡◌, Bool, true, false, List, [], ◌∷◌, ◌++◌, refl, ◌∙◌}
use Rattle.std.specs.Prelude.{is_some}
use Rattle.std.specs.List.{list_any}
use Rattle.std.specs.Map.{lookup}
use Rattle.mp_tx.specs.declared.reference.OutRef.{OutRef}
use Rattle.mp_tx.specs.declared.output.Output.{Output}
use Rattle.mp_tx.specs.Reference.{same_ref}
use Rattle.mp_tx.specs.Ledger.{refs, AreDistinct}
use Rattle.mp_tx.proofs.Repeats.{one_more}

any_more : (r : OutRef) (e : OutRef × Output) (es : List (OutRef × Output)) (t : Bool) → same_ref r e.0 ≡ t → is_some (lookup (same_ref r) es) ≡ list_any (λ o. same_ref r o.0) es
    → is_some (lookup (same_ref r) (e ∷ es)) ≡ list_any (λ o. same_ref r o.0) (e ∷ es)
any_more r e es true is before = rw is refl
any_more r e es false is before = rw is before

any_found : (r : OutRef) (es : List (OutRef × Output)) → is_some (lookup (same_ref r) es) ≡ list_any (λ o. same_ref r o.0) es
any_found r [] = refl
any_found r (e ∷ es) = any_more r e es (same_ref r e.0) refl (any_found r es)

pub stays_distinct : (es new : List (OutRef × Output)) (r : OutRef) (o : Output) → list_any (λ e. same_ref r e.0) es ≡ false → AreDistinct (refs es) → new ≡ es ++ (r, o) ∷ [] → AreDistinct (refs new)
stays_distinct es new r o none distinct is =
    let put = one_more (es ++ (r, o) ∷ []) es [] new (r, o) (any_found r es ∙ none) is (record { whole = refl; distinct = distinct }) in put.distinct
