-- What can be spent after transactions.
use Rattle.std.proofs.Common.{◌≡◌, ◌⊎◌, Bool, true, false, List, [], ◌∷◌, ◌++◌, if◌then◌else◌, refl, sym, ap, subst, ◌∙◌, inl, inr, ⊎_elim, get_or}
use Rattle.std.specs.Prelude.{Option, None, Some, IsSome, is_some, All}
use Rattle.std.specs.List.{AllByRecursion}
use Rattle.std.specs.Option.{option_or}
use Rattle.std.proofs.lemmas.List.Folds.{list_any_none}
use Rattle.std.proofs.lemmas.Bool.{false≢true}
use Rattle.mp_tx.specs.declared.reference.OutRef.{OutRef}
use Rattle.mp_tx.specs.declared.input.Input.{Input}
use Rattle.mp_tx.specs.declared.output.Output.{Output}
use Rattle.mp_tx.specs.Reference.{same_ref}
use Rattle.mp_tx.specs.Transaction.{Transaction, spends}
use Rattle.mp_utxo.specs.Apply.{Unspent, apply, after, output_made}
use Rattle.mp_utxo.specs.Leaf.{IsFed}
use Rattle.mp_utxo.proofs.Noting.{same-exact}

-- the last transaction is applied last
pub after-append : (u : Unspent) (ts : List Transaction) (t : Transaction) → after u (ts ++ t ∷ []) ≡ apply t (after u ts)
after-append u [] t = refl
after-append u (x ∷ ts) t = after-append (apply x u) ts t

pub after-join : (u : Unspent) (xs ys : List Transaction) → after u (xs ++ ys) ≡ after (after u xs) ys
after-join u [] ys = refl
after-join u (x ∷ xs) ys = after-join (apply x u) xs ys

-- the output of a reference afterwards depends only on what it led to before
pub after-at : (u v : Unspent) (ts : List Transaction) (r : OutRef) → u r ≡ v r → after u ts r ≡ after v ts r
after-at u v [] r e = e
after-at u v (x ∷ ts) r e = after-at (apply x u) (apply x v) ts r (ap (λ (o : Option Output). option_or (output_made x r) (if spends x.inputs r then None else o)) e)

-- ---- if none makes an output at the reference

pub none_some : (o : Option Output) → o ≡ None → IsSome o → ⊥
none_some o e h = false≢true (sym (ap is_some e) ∙ h)

abbrev pub Unmade : List Transaction → OutRef → Type 0
Unmade ts r = AllByRecursion (λ t. output_made t r ≡ None) ts

pub apply-unmade : (t : Transaction) (u : Unspent) (r : OutRef) → output_made t r ≡ None → apply t u r ≡ (if spends t.inputs r then None else u r)
apply-unmade t u r e = ap (λ (m : Option Output). option_or m (if spends t.inputs r then None else u r)) e

pub apply-spends : (t : Transaction) (u : Unspent) (r : OutRef) → output_made t r ≡ None → spends t.inputs r ≡ true → apply t u r ≡ None
apply-spends t u r e s = apply-unmade t u r e ∙ ap (λ (b : Bool). if b then None else u r) s

pub apply-past : (t : Transaction) (u : Unspent) (r : OutRef) → output_made t r ≡ None → spends t.inputs r ≡ false → apply t u r ≡ u r
apply-past t u r e s = apply-unmade t u r e ∙ ap (λ (b : Bool). if b then None else u r) s

none_left : (b : Bool) (o : Option Output) → o ≡ None → (if b then None else o) ≡ None
none_left true o e = refl
none_left false o e = e

some_left : (b : Bool) (o : Option Output) → IsSome (if b then None else o) → (if b then None else o) ≡ o
some_left true o h = absurd (false≢true h)
some_left false o h = refl

-- what isn't there isn't added
pub never : (u : Unspent) (ts : List Transaction) (r : OutRef) → Unmade ts r → u r ≡ None → after u ts r ≡ None
never u [] r unmade e = e
never u (x ∷ ts) r unmade e = never (apply x u) ts r unmade.1 (apply-unmade x u r unmade.0 ∙ none_left (spends x.inputs r) (u r) e)

-- what is there was there
pub was_there : (u : Unspent) (ts : List Transaction) (r : OutRef) → Unmade ts r → IsSome (after u ts r) → after u ts r ≡ u r
was_there u [] r unmade h = refl
was_there u (x ∷ ts) r unmade h =
    let rest : after (apply x u) ts r ≡ apply x u r = was_there (apply x u) ts r unmade.1 h in
    let left : apply x u r ≡ (if spends x.inputs r then None else u r) = apply-unmade x u r unmade.0 in
    rest ∙ left ∙ some_left (spends x.inputs r) (u r) (subst (λ (o : Option Output). IsSome o) (rest ∙ left) h)

-- ---- if only one output is made at the reference

abbrev pub IsOr : Output → Option Output → Type 0
IsOr o m = (m ≡ None) ⊎ (m ≡ Some o)

left_or : (o : Output) (b : Bool) (m : Option Output) → IsOr o m → IsOr o (if b then None else m)
left_or o true m h = inl refl
left_or o false m h = h

made_or : (o : Output) (made left : Option Output) → IsOr o made → IsOr o left → IsOr o (option_or made left)
made_or o made left h k = ⊎_elim
    (λ (e : made ≡ None). subst (λ (m : Option Output). IsOr o (option_or m left)) (sym e) k)
    (λ (e : made ≡ Some o). inr (ap (λ (m : Option Output). option_or m left) e)) h

pub only_one : (o : Output) (u : Unspent) (ts : List Transaction) (r : OutRef) → AllByRecursion (λ t. IsOr o (output_made t r)) ts → IsOr o (u r) → IsOr o (after u ts r)
only_one o u [] r made h = h
only_one o u (x ∷ ts) r made h = only_one o (apply x u) ts r made.1 (made_or o (output_made x r) (if spends x.inputs r then None else u r) made.0 (left_or o (spends x.inputs r) (u r) h))

-- ---- if everything that they spend is there

ne_true : (b : Bool) → (b ≡ true → ⊥) → b ≡ false
ne_true true h = absurd (h refl)
ne_true false h = refl

-- what isn't there isn't spent
spends_not : (v : Unspent) (t : Transaction) (r : OutRef) → v r ≡ None → All (λ i. IsSome (v i.from)) t.inputs → spends t.inputs r ≡ false
spends_not v t r e there = list_any_none (λ (i : Input). same_ref r i.from) t.inputs
    (λ k d lt. ne_true (same_ref r (get_or t.inputs k d).from)
    (λ same. none_some (v (get_or t.inputs k d).from) (sym (ap v (same-exact r (get_or t.inputs k d).from same)) ∙ e) (there k d lt)))

-- if the reference leads to nothing and none makes it, transactions whose inputs are there leave it as it is
pub untouched : (v w : Unspent) (ts : List Transaction) (r : OutRef) → Unmade ts r → IsFed v ts → v r ≡ None → after w ts r ≡ w r
untouched v w [] r unmade fed e = refl
untouched v w (x ∷ ts) r unmade fed e =
    let s : spends x.inputs r ≡ false = spends_not v x r e fed.0 in
    untouched (apply x v) (apply x w) ts r unmade.1 fed.1 (apply-past x v r unmade.0 s ∙ e) ∙ apply-past x w r unmade.0 s

-- the one in the middle has its inputs, and so have those after it
pub fed_at : (u : Unspent) (xs : List Transaction) (t : Transaction) (ys : List Transaction) → IsFed u (xs ++ t ∷ ys) → All (λ i. IsSome (after u xs i.from)) t.inputs × IsFed (apply t (after u xs)) ys
fed_at u [] t ys fed = fed
fed_at u (x ∷ xs) t ys fed = fed_at (apply x u) xs t ys fed.1

some_or_not : (o : Option Output) → (o ≡ None → ⊥) → IsSome o
some_or_not None h = absurd (h refl)
some_or_not (Some x) h = refl

-- what it spends was there
pub there_at : (v : Unspent) (t : Transaction) (r : OutRef) → All (λ i. IsSome (v i.from)) t.inputs → spends t.inputs r ≡ true → IsSome (v r)
there_at v t r there s = some_or_not (v r) (λ e. false≢true (sym (spends_not v t r e there) ∙ s))
