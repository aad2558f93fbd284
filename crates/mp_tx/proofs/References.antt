-- The order of references, and their equality.
use Rattle.std.proofs.Common.{◌≡◌, ℕ, List, true, ◌&&◌, ◌==◌, nat_eq, refl, sym, ap, ◌∙◌}
use Rattle.std.specs.Ordering.{eq_by_cmp, is_eq, nat_cmp, ordering_then}
use Rattle.std.specs.Cmp.{IsTotalOrder, tied_itself, unsigned_ties, then_total, on_total, nat_cmp_total}
use Rattle.std.specs.FinMap.{find, get, from_entries, get-from_entries}
use Rattle.std.specs.Cmp.Lexicographic.{pointwise, slice_cmp, texts_ties, nat_list_cmp_total}
use Rattle.std.specs.declared.cmp.Ordering.{Ordering}
use Rattle.std.specs.declared.cmp.Ordering.TheVariants.{Less, Equal, Greater}
use Rattle.mp_tx.specs.declared.reference.OutRef.{OutRef}
use Rattle.mp_tx.specs.Reference.{ref_cmp, same_ref}
use Rattle.mp_tx.specs.declared.output.Output.{Output}
use Rattle.mp_tx.specs.Ledger.{refs}
use Rattle.std.specs.Prelude.{Bool, cond, Decides, Contains, Some, [], ◌∷◌, is_some}
use Rattle.std.specs.Map.{lookup}
use Rattle.std.specs.List.{list_any}
use Rattle.std.specs.FinMap.Entries.{is_some-find}
use Rattle.std.proofs.lemmas.Map.Lookups.{exact_pairs, exact_bytes, exact_unsigned}
use Rattle.std.proofs.lemmas.List.Elements.{Decides-contains}
use Rattle.std.proofs.lemmas.Bool.Decides.{Decides-by_or}

is_eq-then : (o q : Ordering) → is_eq (ordering_then o q) ≡ (is_eq o && is_eq q)
is_eq-then Less q = refl
is_eq-then Equal q = refl
is_eq-then Greater q = refl

-- references are equal if they compare equal
pub same-ties : (a b : OutRef) → (pointwise nat_eq a.id b.id && (a.index == b.index)) ≡ is_eq (ref_cmp a b)
same-ties a b =
    ap (λ t. t && (a.index == b.index)) (texts_ties a.id b.id)
    ∙ ap (λ t. is_eq (slice_cmp nat_cmp a.id b.id) && t) (unsigned_ties a.index b.index)
    ∙ sym (is_eq-then (slice_cmp nat_cmp a.id b.id) (nat_cmp a.index b.index))

pub ref_total : IsTotalOrder ref_cmp
ref_total = then_total (on_total (λ r. r.id) nat_list_cmp_total) (on_total (λ r. r.index) nat_cmp_total)

same_is_tie : (r : OutRef) → same_ref r ≡ eq_by_cmp ref_cmp r
same_is_tie r = λ i q. same-ties r q i

found-ties : (test : OutRef → Bool) (r : OutRef) → test ≡ eq_by_cmp ref_cmp r → (outputs : List (OutRef × Output)) → lookup test outputs ≡ find ref_cmp r outputs
found-ties test r e [] = refl
found-ties test r e (o ∷ os) = λ i. cond (e i o.0) (Some o.1) (found-ties test r e os i)

-- searching the list finds what its map has
pub lookup-get : (outputs : List (OutRef × Output)) (r : OutRef) → lookup (same_ref r) outputs ≡ get (from_entries {R = ref_cmp} outputs) r
lookup-get outputs r = found-ties (same_ref r) r (same_is_tie r) outputs ∙ sym (get-from_entries ref_total outputs r)

-- references that compare equal are equal
pub ref_exact : (a b : OutRef) → ref_cmp a b ≡ Equal → a ≡ b
ref_exact a b e = ap (λ (p : List ℕ × ℕ). record { id = p.0; index = p.1 }) (exact_pairs (slice_cmp nat_cmp) nat_cmp exact_bytes exact_unsigned (a.id, a.index) (b.id, b.index) e)

pub equal : (o : Ordering) → is_eq o ≡ true → o ≡ Equal
equal Less e = Prim.cc
equal Equal e = refl
equal Greater e = Prim.cc

pub tied-Decides : (r q : OutRef) → Decides (eq_by_cmp ref_cmp r q) (q ≡ r)
tied-Decides r q = (λ e. sym (ref_exact r q (equal _ e)), λ e. ap (λ k. is_eq (ref_cmp r k)) e ∙ ap is_eq (tied_itself ref_total r))

-- a reference is found exactly when the outputs have it
pub found-Decides : (outputs : List (OutRef × Output)) (r : OutRef) → Decides (is_some (lookup (same_ref r) outputs)) (Contains (refs outputs) r)
found-Decides outputs r =
    let any = Decides-contains (refs outputs) r _ (Decides-by_or (eq_by_cmp ref_cmp r) (λ q. q ≡ r) (list_any (eq_by_cmp ref_cmp r)) (tied-Decides r) refl (λ x xs. refl) (refs outputs)) in
    let is = ap is_some (found-ties (same_ref r) r (same_is_tie r) outputs) ∙ is_some-find ref_cmp r outputs in
    (λ e. any.0 (sym is ∙ e), λ h. is ∙ any.1 h)
