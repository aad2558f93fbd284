-- The changes of an overlay also hold on another ledger state, if everything that its transactions spend was there on
-- the first.
use Rattle.std.proofs.Common.{◌≡◌, ℕ, Bool, true, false, ◌||◌, List, [], ◌∷◌, if◌then◌else◌, refl, sym, ap, subst, ◌∙◌, ⊎_elim}
use Rattle.std.specs.Prelude.{Option, Some, None, IsSome, is_some}
use Rattle.std.specs.Option.{option_or}
use Rattle.std.specs.List.{list_any}
use Rattle.std.proofs.lemmas.Bool.{false≢true}
use Rattle.std.proofs.lemmas.List.Elements.{recursion_from_All}
use Rattle.mp_tx.specs.declared.reference.OutRef.{OutRef}
use Rattle.mp_tx.specs.declared.output.Output.{Output}
use Rattle.mp_tx.specs.Transaction.{Transaction, spends}
use Rattle.mp_utxo.specs.declared.changes.Change.{Change}
use Rattle.mp_utxo.specs.declared.changes.Change.TheVariants.{Spent, Made, MadeThenSpent}
use Rattle.mp_utxo.specs.Apply.{Unspent, apply, after, output_made}
use Rattle.mp_utxo.specs.Leaf.{IsFed, NoneMakes}
use Rattle.mp_utxo.specs.Inside.Changes.{Noted, last_change}
use Rattle.mp_utxo.specs.Inside.Applied.{Places, those}
use Rattle.mp_utxo.specs.Inside.Overlay.{changed, SomeSpends, IsMadeSo, MakesAt, AreKept}
use Rattle.mp_utxo.proofs.After.{Unmade, after-at, apply-spends, apply-past, never, was_there, untouched, none_some}
use Rattle.mp_utxo.proofs.Places.{In, in-those}

unmade : (ts : List Transaction) (r : OutRef) → NoneMakes ts r → Unmade ts r
unmade ts r none = recursion_from_All (λ (t : Transaction). output_made t r ≡ None) ts none

-- ---- if none makes it

-- what one of them spends is gone, whatever was there
spent_one : (v : Unspent) (x : Transaction) (ts : List Transaction) (r : OutRef) → Unmade (x ∷ ts) r → (s : Bool) → spends x.inputs r ≡ s → SomeSpends (x ∷ ts) r → (SomeSpends ts r → after (apply x v) ts r ≡ None) → after (apply x v) ts r ≡ None
spent_one v x ts r none true s some later = never (apply x v) ts r none.1 (apply-spends x v r none.0 s)
spent_one v x ts r none false s some later = later (sym (ap (λ b. b || list_any (λ t. spends t.inputs r) ts) s) ∙ some)

spent_gone : (v : Unspent) (ts : List Transaction) (r : OutRef) → Unmade ts r → SomeSpends ts r → after v ts r ≡ None
spent_gone v [] r none some = absurd (false≢true some)
spent_gone v (x ∷ ts) r none some = spent_one v x ts r none (spends x.inputs r) refl some (spent_gone (apply x v) ts r none.1)

-- what remains was spent by none, so another output remains too
left_one : (u v : Unspent) (x : Transaction) (r : OutRef) → output_made x r ≡ None → (s : Bool) → spends x.inputs r ≡ s → IsSome (apply x u r) → apply x v r ≡ v r
left_one u v x r none true s there = absurd (none_some (apply x u r) (apply-spends x u r none s) there)
left_one u v x r none false s there = apply-past x v r none s

still_left : (u v : Unspent) (ts : List Transaction) (r : OutRef) → Unmade ts r → IsSome (after u ts r) → after v ts r ≡ v r
still_left u v [] r none there = refl
still_left u v (x ∷ ts) r none there =
    still_left (apply x u) (apply x v) ts r none.1 there
    ∙ left_one u v x r none.0 (spends x.inputs r) refl (subst (λ (o : Option Output). IsSome o) (was_there (apply x u) ts r none.1 there) there)

passed : (u v : Unspent) (ts : List Transaction) (r : OutRef) (o : Option Output) → Unmade ts r → IsFed u ts → u r ≡ o → u r ≡ after u ts r → v r ≡ after v ts r
passed u v ts r None none fed e is = sym (untouched u v ts r none fed e)
passed u v ts r (Some x) none fed e is = sym (still_left u v ts r none (subst (λ (o : Option Output). IsSome o) is (ap is_some e)))

-- ---- if one makes it

made_over : (m a b : Option Output) → IsSome m → option_or m a ≡ option_or m b
made_over None a b h = absurd (false≢true h)
made_over (Some x) a b h = refl

made_alike : (u v : Unspent) (ts : List Transaction) (m : Transaction) (r : OutRef) → In ts m → IsSome (output_made m r) → after u ts r ≡ after v ts r
made_alike u v [] m r there makes = absurd there
made_alike u v (x ∷ ts) m r there makes = ⊎_elim
    (λ (e : x ≡ m). after-at (apply x u) (apply x v) ts r
    (made_over (output_made x r) (if spends x.inputs r then None else u r) (if spends x.inputs r then None else v r) (subst (λ (t : Transaction). IsSome (output_made t r)) (sym e) makes)))
    (λ (k : In ts m). made_alike (apply x u) (apply x v) ts m r k makes) there

made_at : (ps : Places) (u v : Unspent) (place : ℕ) (r : OutRef) → MakesAt ps place r → after u (those ps) r ≡ after v (those ps) r
made_at ps u v place r at = made_alike u v (those ps) at.maker r (in-those ps place at.maker at.stands) at.makes

-- ---- as a whole

tells : (ps : Places) (u v : Unspent) (r : OutRef) (o : Option Change) → IsFed u (those ps) → changed ps u r o ≡ after u (those ps) r → IsMadeSo ps r o → changed ps v r o ≡ after v (those ps) r
tells ps u v r None fed is made = passed u v (those ps) r (u r) (unmade (those ps) r made) fed refl is
tells ps u v r (Some Spent) fed is made = sym (spent_gone v (those ps) r (unmade (those ps) r made.0) made.1)
tells ps u v r (Some (Made place)) fed is made = is ∙ made_at ps u v place r made
tells ps u v r (Some (MadeThenSpent place by)) fed is made = is ∙ made_at ps u v place r made.0

-- the changes determine what can be spent after the transactions on the other ledger state
pub rebased : (ps : Places) (u v : Unspent) (noted : Noted) → IsFed u (those ps) → AreKept ps u noted → AreKept ps v noted
rebased ps u v noted fed kept = record {
  tell = λ r. tells ps u v r (last_change noted r) fed (kept.tell r) (kept.made r);
  made = kept.made;
}
