-- What can be spent after a transaction, by ids alone.
use Rattle.std.proofs.Common.{◌≡◌, ℕ, inl, inr, Bool, true, false, cond, List, [], ◌∷◌, refl, sym, ap, subst, ◌∙◌}
use Rattle.std.specs.Prelude.{Option, None, Some, IsSome, All, nat_eq, slice_get}
use Rattle.std.specs.Option.{option_or}
use Rattle.std.specs.List.{AllByRecursion, list_any}
use Rattle.std.specs.Cmp.Lexicographic.{pointwise, bytes_decides}
use Rattle.std.proofs.lemmas.Bool.{true≢false, false_from_ne_true, or_cases, or_parts}
use Rattle.std.proofs.lemmas.List.Elements.{All-nil, All-cons, All-head, All-tail}
use Rattle.mp_tx.specs.declared.reference.OutRef.{OutRef}
use Rattle.mp_tx.specs.declared.output.Output.{Output}
use Rattle.mp_tx.specs.Transaction.{Transaction, spends}
use Rattle.mp_tx.specs.Spelling.{id_of}
use Rattle.mp_utxo.specs.Apply.{Unspent, apply, output_made}
use Rattle.mp_seqpool.specs.Dependents.{is_among}

-- ---- lists

pub weaker : {A : Type 0} (P Q : A → Type 0) → ((x : A) → P x → Q x) → (xs : List A) → AllByRecursion P xs → AllByRecursion Q xs
weaker P Q f [] a = tt
weaker P Q f (x ∷ xs) a = (f x a.0, weaker P Q f xs a.1)

-- ---- ids

-- an id that isn't among some is none of them
pub differs : (ids : List (List ℕ)) (id other : List ℕ) → is_among ids id ≡ false → is_among ids other ≡ true → pointwise nat_eq id other ≡ false
differs ids id other out in_it = false_from_ne_true (pointwise nat_eq id other) (λ e. true≢false (sym in_it ∙ ap (is_among ids) (sym ((bytes_decides id other).0 e)) ∙ out))

pub differs_too : (ids : List (List ℕ)) (id other : List ℕ) → is_among ids id ≡ true → is_among ids other ≡ false → pointwise nat_eq id other ≡ false
differs_too ids id other in_it out = false_from_ne_true (pointwise nat_eq id other) (λ e. true≢false (sym in_it ∙ ap (is_among ids) ((bytes_decides id other).0 e) ∙ out))

pub unlike : (id other : List ℕ) → (id ≡ other → ⊥) → pointwise nat_eq id other ≡ false
unlike id other h = false_from_ne_true (pointwise nat_eq id other) (λ e. h ((bytes_decides id other).0 e))

-- ---- one more transaction

nothing_by : (own spent : Bool) (m o : Option Output) → own ≡ false → o ≡ None → option_or (cond own m None) (cond spent None o) ≡ None
nothing_by true spent m o e none = absurd (true≢false e)
nothing_by false true m o e none = refl
nothing_by false false m o e none = none

-- if there is nothing at an id, a transaction with another one makes nothing there
pub nothing : (t : Transaction) (u : Unspent) (r : OutRef) → pointwise nat_eq r.id (id_of t) ≡ false → u r ≡ None → apply t u r ≡ None
nothing t u r e none = nothing_by (pointwise nat_eq r.id (id_of t)) (spends t.inputs r) (slice_get t.outputs r.index) (u r) e none

before_by : (own spent : Bool) (m x : Option Output) (o : Output) → own ≡ false → option_or (cond own m None) (cond spent None x) ≡ Some o → x ≡ Some o
before_by true spent m x o e is = absurd (true≢false e)
before_by false true m x o e is = Prim.cc
before_by false false m x o e is = is

-- what is at another id than the transaction's was there before
pub before : (t : Transaction) (u : Unspent) (r : OutRef) (o : Output) → pointwise nat_eq r.id (id_of t) ≡ false → apply t u r ≡ Some o → u r ≡ Some o
before t u r o e is = before_by (pointwise nat_eq r.id (id_of t)) (spends t.inputs r) (slice_get t.outputs r.index) (u r) o e is

both_by : (spent : Bool) (m x y : Option Output) (o : Output) → (x ≡ Some o → y ≡ Some o) → option_or m (cond spent None x) ≡ Some o → option_or m (cond spent None y) ≡ Some o
both_by spent (Some z) x y o h is = is
both_by true None x y o h is = Prim.cc
both_by false None x y o h is = h is

-- what is still there after some were taken out is there after one more transaction
pub both : (t : Transaction) (u v : Unspent) (r : OutRef) (o : Output) → (u r ≡ Some o → v r ≡ Some o) → apply t u r ≡ Some o → apply t v r ≡ Some o
both t u v r o h is = both_by (spends t.inputs r) (output_made t r) (u r) (v r) o h is

-- ---- what a transaction names

found_by : (x y : Option Output) → ((o : Output) → x ≡ Some o → y ≡ Some o) → IsSome x → x ≡ y
found_by None y h there = absurd (true≢false (sym there))
found_by (Some o) y h there = sym (h o refl)

module _ (gone : List (List ℕ)) {X : Type 0} (ref : X → OutRef) where
  -- a transaction that names nothing that went finds the same
  pub finds : (u v : Unspent) → ((r : OutRef) (o : Output) → is_among gone r.id ≡ false → u r ≡ Some o → v r ≡ Some o) → (xs : List X) → list_any (λ x. is_among gone (ref x).id) xs ≡ false → All (λ x. IsSome (u (ref x))) xs → All (λ x. u (ref x) ≡ v (ref x)) xs
  finds u v still [] e there = All-nil (λ x. u (ref x) ≡ v (ref x))
  finds u v still (x ∷ xs) e there =
      let apart = or_parts (is_among gone (ref x).id) (list_any (λ x. is_among gone (ref x).id) xs) e in
      All-cons (λ x. u (ref x) ≡ v (ref x)) x xs
      (found_by (u (ref x)) (v (ref x)) (λ o. still (ref x) o apart.0) (All-head (λ x. IsSome (u (ref x))) x xs there))
      (finds u v still xs apart.1 (All-tail (λ x. IsSome (u (ref x))) x xs there))

  none_there : (o : Option Output) → o ≡ None → IsSome o → ⊥
  none_there o none there = true≢false (sym (subst IsSome none there))

  -- a transaction that names something that went doesn't find it
  pub misses : (v : Unspent) → ((r : OutRef) → is_among gone r.id ≡ true → v r ≡ None) → (xs : List X) → list_any (λ x. is_among gone (ref x).id) xs ≡ true → All (λ x. IsSome (v (ref x))) xs → ⊥
  misses v absent [] e there = true≢false (sym e)
  misses v absent (x ∷ xs) e there = elim (or_cases (is_among gone (ref x).id) (list_any (λ x. is_among gone (ref x).id) xs) e) [
    | inl here ↦ none_there (v (ref x)) (absent (ref x) here) (All-head (λ x. IsSome (v (ref x))) x xs there)
    | inr later ↦ misses v absent xs later (All-tail (λ x. IsSome (v (ref x))) x xs there)
  ]
