-- A remove drops what is named, and what depends on something that goes.
use Rattle.std.proofs.Common.{◌≡◌, ◌≢◌, ℕ, inl, inr, Bool, true, false, cond, ◌||◌, List, [], ◌∷◌, refl, sym, ap, subst, ◌∙◌}
use Rattle.std.specs.Prelude.{None, Some, is_none, not, map, nat_eq, AllPairs}
use Rattle.std.specs.List.{AllByRecursion, list_any}
use Rattle.std.specs.FinMap.{get}
use Rattle.std.specs.Cmp.Lexicographic.{pointwise, bytes_decides}
use Rattle.std.proofs.lemmas.Bool.{true≢false, false_from_ne_true, or_cases, or_parts, or_from, or_right}
use Rattle.std.proofs.lemmas.List.Elements.{recursion_from_All}
use Rattle.mp_tx.specs.declared.reference.OutRef.{OutRef}
use Rattle.mp_tx.specs.declared.output.Output.{Output}
use Rattle.mp_tx.specs.Transaction.{Transaction}
use Rattle.mp_tx.specs.Spelling.{id_of}
use Rattle.mp_utxo.specs.Apply.{Unspent, apply, own_ref}
use Rattle.mp_rules.specs.Verifier.{Accepts}
use Rattle.mp_rules.specs.Validity.{Chain, InInterval, InputsThere, ReferencesThere, OutputsFresh}
use Rattle.mp_rules.specs.FirstFault.{first_fault}
use Rattle.mp_rules.proofs.Valid.{valid, faultless}
use Rattle.mp_rules.proofs.Meeting.{validity_is_local}
use Rattle.mp_seqpool.specs.Keep.{transactions, is_named, named, unnamed, is_valid, keep_upon, dropped_upon}
use Rattle.mp_seqpool.specs.Pool.{Pool}
use Rattle.mp_seqpool.specs.PoolLaws.{IsLawful}
use Rattle.mp_seqpool.specs.Dependents.{is_among, hangs_on, left_of, dependents_of, ids_named, IsApart, DropsDependents}
use Rattle.mp_seqpool.proofs.Keeping.{AllPairs-head, AllPairs-tail, no_fault}
use Rattle.mp_seqpool.proofs.Dependents.{weaker, differs, differs_too, unlike, nothing, before, both, finds, misses}

-- ---- lists

joined : {A : Type 0} (P Q R : A → Type 0) → ((x : A) → P x → Q x → R x) → (xs : List A) → AllByRecursion P xs → AllByRecursion Q xs → AllByRecursion R xs
joined P Q R f [] a b = tt
joined P Q R f (x ∷ xs) a b = (f x a.0 b.0, joined P Q R f xs a.1 b.1)

abbrev Items : Type 0
Items = List (ℕ × Transaction)

-- what holds of the transactions holds of the items
of_items : (P : Transaction → Type 0) (items : Items) → AllByRecursion P (transactions items) → AllByRecursion (λ i. P i.1) items
of_items P [] a = tt
of_items P (i ∷ is) a = (a.0, of_items P is a.1)

-- none of the items has this id
abbrev HasNone : List ℕ → Items → Type 0
HasNone id items = AllByRecursion (λ i. id_of i.1 ≢ id) items

-- ids are distinct
abbrev AreApart : Items → Type 0
AreApart [] = Unit {0}
AreApart (i ∷ is) = HasNone (id_of i.1) is × AreApart is

has_none : (id : List ℕ) (items : Items) → AllByRecursion (λ other. id ≢ other) (map id_of (transactions items)) → HasNone id items
has_none id [] a = tt
has_none id (i ∷ is) a = (λ e. a.0 (sym e), has_none id is a.1)

are_apart : (items : Items) → AllPairs (λ a b. a ≢ b) (map id_of (transactions items)) → AreApart items
are_apart [] pairs = tt
are_apart (i ∷ is) pairs =
    let ids = map id_of (transactions is) in (
      has_none (id_of i.1) is (recursion_from_All (λ other. id_of i.1 ≢ other) ids (AllPairs-head (λ a b. a ≢ b) (id_of i.1) ids pairs)),
      are_apart is (AllPairs-tail (λ a b. a ≢ b) (id_of i.1) ids pairs),
    )

-- ---- the ids of the named

module _ (ids : List (List ℕ)) where
  step_out : (b : Bool) (i : ℕ × Transaction) (ns : Items) (id : List ℕ) → is_named ids i.1 ≡ b → is_among ids id ≡ false → is_among (map id_of (transactions ns)) id ≡ false
      → is_among (map id_of (transactions (cond b (i ∷ ns) ns))) id ≡ false
  step_out true i ns id is out later = or_from _ _ (differs ids id (id_of i.1) out is) later
  step_out false i ns id is out later = later

  named_out : (items : Items) (id : List ℕ) → is_among ids id ≡ false → is_among (ids_named ids items) id ≡ false
  named_out [] id out = refl
  named_out (i ∷ is) id out = step_out (is_named ids i.1) i (named ids is) id refl out (named_out is id out)

  step_later : (b : Bool) (i : ℕ × Transaction) (ns : Items) (id : List ℕ) → is_among (map id_of (transactions ns)) id ≡ true → is_among (map id_of (transactions (cond b (i ∷ ns) ns))) id ≡ true
  step_later true i ns id later = or_right _ _ later
  step_later false i ns id later = later

  step_here : (b : Bool) (i : ℕ × Transaction) (ns : Items) → b ≡ true → is_among (map id_of (transactions (cond b (i ∷ ns) ns))) (id_of i.1) ≡ true
  step_here true i ns e = ap (λ c. c || is_among (map id_of (transactions ns)) (id_of i.1)) ((bytes_decides (id_of i.1) (id_of i.1)).1 refl)
  step_here false i ns e = absurd (true≢false (sym e))

  named_in : (items : Items) → AllByRecursion (λ i. is_named ids i.1 ≡ true → is_among (ids_named ids items) (id_of i.1) ≡ true) items
  named_in [] = tt
  named_in (i ∷ is) = (
    step_here (is_named ids i.1) i (named ids is),
    weaker (λ j. is_named ids j.1 ≡ true → is_among (ids_named ids is) (id_of j.1) ≡ true) (λ j. is_named ids j.1 ≡ true → is_among (ids_named ids (i ∷ is)) (id_of j.1) ≡ true)
        (λ j h e. step_later (is_named ids i.1) i (named ids is) (id_of j.1) (h e)) is (named_in is),
  )

  agree : (items : Items) (t : Transaction) → (is_named ids t ≡ true → is_among (ids_named ids items) (id_of t) ≡ true) → is_among (ids_named ids items) (id_of t) ≡ is_named ids t
  agree items t h = elim (is_named ids t) as (λ b. is_named ids t ≡ b → is_among (ids_named ids items) (id_of t) ≡ b) [
    | true ↦ h
    | false ↦ named_out items (id_of t)
  ] refl

  -- an item's id is among those exactly when the item is named
  pub named_told : (items : Items) → AllByRecursion (λ i. is_among (ids_named ids items) (id_of i.1) ≡ is_named ids i.1) items
  named_told items =
      weaker (λ i. is_named ids i.1 ≡ true → is_among (ids_named ids items) (id_of i.1) ≡ true) (λ i. is_among (ids_named ids items) (id_of i.1) ≡ is_named ids i.1)
      (λ i h. agree items i.1 h) items (named_in items)

  -- an id that is among those is an item's
  step_from : (P : List ℕ → Type 0) (b : Bool) (i : ℕ × Transaction) (ns : Items) (id : List ℕ) → P (id_of i.1) → (is_among (map id_of (transactions ns)) id ≡ true → P id) → is_among (map id_of (transactions (cond b (i ∷ ns) ns))) id ≡ true → P id
  step_from P true i ns id p later e = elim (or_cases (pointwise nat_eq id (id_of i.1)) (is_among (map id_of (transactions ns)) id) e) [
    | inl h ↦ subst P (sym ((bytes_decides id (id_of i.1)).0 h)) p
    | inr h ↦ later h
  ]
  step_from P false i ns id p later e = later e

  pub named_from : (P : List ℕ → Type 0) (items : Items) (id : List ℕ) → AllByRecursion (λ i. P (id_of i.1)) items → is_among (ids_named ids items) id ≡ true → P id
  named_from P [] id a e = absurd (true≢false (sym e))
  named_from P (i ∷ is) id a e = step_from P (is_named ids i.1) i (named ids is) id a.0 (named_from P is id a.1) e

module _ (accepts : Accepts) (tick : ℕ) (ids : List (List ℕ)) where
  -- u is what can be spent after all so far, and v after those that stay; these ids are gone, and these items remain.
  record Stands (u v : Unspent) (gone : List (List ℕ)) (items : Items) : Type 0 where
    chain : Chain accepts u tick (transactions items)
    apart : AreApart items
    -- of the remaining items, exactly the ids of the named ones are gone
    told : AllByRecursion (λ i. is_among gone (id_of i.1) ≡ is_named ids i.1) items
    -- none has made an output yet
    fresh : AllByRecursion (λ i. (r : OutRef) → r.id ≡ id_of i.1 → v r ≡ None) items
    -- at an id that is gone there is nothing
    absent : (r : OutRef) → is_among gone r.id ≡ true → v r ≡ None
    -- everything else that was there is still there
    still : (r : OutRef) (o : Output) → is_among gone r.id ≡ false → u r ≡ Some o → v r ≡ Some o

  module _ (u v : Unspent) (gone : List (List ℕ)) (i : ℕ × Transaction) (is : Items) (s : Stands u v gone (i ∷ is)) where
    after_named : is_named ids i.1 ≡ true → Stands (apply i.1 u) v gone is
    after_named e = record {
      chain = s.chain.1;
      apart = s.apart.1;
      told = s.told.1;
      fresh = s.fresh.1;
      absent = s.absent;
      still = λ r o out there. s.still r o out (before i.1 u r o (differs gone r.id (id_of i.1) out (s.told.0 ∙ e)) there);
    }

    among_one_more : (r : OutRef) → is_among (id_of i.1 ∷ gone) r.id ≡ true → v r ≡ None
    among_one_more r in_it = elim (or_cases (pointwise nat_eq r.id (id_of i.1)) (is_among gone r.id) in_it) [
      | inl h ↦ s.fresh.0 r ((bytes_decides r.id (id_of i.1)).0 h)
      | inr h ↦ s.absent r h
    ]

    after_hanging : Stands (apply i.1 u) v (id_of i.1 ∷ gone) is
    after_hanging = record {
      chain = s.chain.1;
      apart = s.apart.1;
      told = joined (λ j. id_of j.1 ≢ id_of i.1) (λ j. is_among gone (id_of j.1) ≡ is_named ids j.1) (λ j. is_among (id_of i.1 ∷ gone) (id_of j.1) ≡ is_named ids j.1)
          (λ j other told. ap (λ b. b || is_among gone (id_of j.1)) (unlike (id_of j.1) (id_of i.1) other) ∙ told) is s.apart.0 s.told.1;
      fresh = s.fresh.1;
      absent = among_one_more;
      still = λ r o out there. let apart = or_parts (pointwise nat_eq r.id (id_of i.1)) (is_among gone r.id) out in s.still r o apart.1 (before i.1 u r o apart.0 there);
    }

    after_staying : is_named ids i.1 ≡ false → Stands (apply i.1 u) (apply i.1 v) gone is
    after_staying e = record {
      chain = s.chain.1;
      apart = s.apart.1;
      told = s.told.1;
      fresh = joined (λ j. id_of j.1 ≢ id_of i.1) (λ j. (r : OutRef) → r.id ≡ id_of j.1 → v r ≡ None) (λ j. (r : OutRef) → r.id ≡ id_of j.1 → apply i.1 v r ≡ None)
          (λ j other none r e. nothing i.1 v r (unlike r.id (id_of i.1) (λ same. other (sym e ∙ same))) (none r e)) is s.apart.0 s.fresh.1;
      absent = λ r in_it. nothing i.1 v r (differs_too gone r.id (id_of i.1) in_it (s.told.0 ∙ e)) (s.absent r in_it);
      still = λ r o out there. both i.1 u v r o (s.still r o out) there;
    }

    -- an item that depends on none that is gone is valid
    stays_valid : hangs_on gone i.1 ≡ false → is_valid accepts v tick i.1 ≡ true
    stays_valid e =
        let apart = or_parts (list_any (λ x. is_among gone x.from.id) i.1.inputs) (list_any (λ r. is_among gone r.id) i.1.references) e in
        let was = s.chain.0 in
        ap is_none (faultless accepts v tick i.1 (validity_is_local accepts u v tick tick i.1 (record {
          inputs = finds gone (λ x. x.from) u v s.still i.1.inputs apart.0 (was InputsThere);
          references = finds gone (λ r. r) u v s.still i.1.references apart.1 (was ReferencesThere);
          own = λ k lt. was OutputsFresh k lt ∙ sym (s.fresh.0 (own_ref i.1 k) refl);
        }) was (was InInterval).0 (was InInterval).1))

    -- an item that depends on one that is gone isn't
    falls : hangs_on gone i.1 ≡ true → is_valid accepts v tick i.1 ≡ false
    falls e = false_from_ne_true (is_valid accepts v tick i.1) (λ h.
        let is = valid accepts v tick i.1 (no_fault (first_fault accepts v tick i.1) h) in
        elim (or_cases (list_any (λ x. is_among gone x.from.id) i.1.inputs) (list_any (λ r. is_among gone r.id) i.1.references) e) [
          | inl a ↦ misses gone (λ x. x.from) v s.absent i.1.inputs a (is InputsThere)
          | inr a ↦ misses gone (λ r. r) v s.absent i.1.references a (is ReferencesThere)
        ])

  -- the dependents decide what stays and what goes
  abbrev AreDependents : Unspent → List (List ℕ) → Items → Type 0
  AreDependents v gone items = (keep_upon accepts v tick items ≡ left_of gone items) × (dropped_upon accepts v tick items ≡ dependents_of gone items)

  with_hanging : (v : Unspent) (gone : List (List ℕ)) (i : ℕ × Transaction) (is : Items) → is_valid accepts v tick i.1 ≡ false → hangs_on gone i.1 ≡ true → AreDependents v (id_of i.1 ∷ gone) is → AreDependents v gone (i ∷ is)
  with_hanging v gone i is bad hangs rest = (
    ap (λ b. cond b (i ∷ keep_upon accepts (apply i.1 v) tick is) (keep_upon accepts v tick is)) bad ∙ rest.0
        ∙ ap (λ b. cond b (left_of (id_of i.1 ∷ gone) is) (i ∷ left_of gone is)) (sym hangs),
    ap (λ b. cond b (dropped_upon accepts (apply i.1 v) tick is) (i.0 ∷ dropped_upon accepts v tick is)) bad ∙ ap (λ l. i.0 ∷ l) rest.1
        ∙ ap (λ b. cond b (i.0 ∷ dependents_of (id_of i.1 ∷ gone) is) (dependents_of gone is)) (sym hangs),
  )

  with_staying : (v : Unspent) (gone : List (List ℕ)) (i : ℕ × Transaction) (is : Items) → is_valid accepts v tick i.1 ≡ true → hangs_on gone i.1 ≡ false → AreDependents (apply i.1 v) gone is → AreDependents v gone (i ∷ is)
  with_staying v gone i is good apart rest = (
    ap (λ b. cond b (i ∷ keep_upon accepts (apply i.1 v) tick is) (keep_upon accepts v tick is)) good ∙ ap (λ l. i ∷ l) rest.0
        ∙ ap (λ b. cond b (left_of (id_of i.1 ∷ gone) is) (i ∷ left_of gone is)) (sym apart),
    ap (λ b. cond b (dropped_upon accepts (apply i.1 v) tick is) (i.0 ∷ dropped_upon accepts v tick is)) good ∙ rest.1
        ∙ ap (λ b. cond b (i.0 ∷ dependents_of (id_of i.1 ∷ gone) is) (dependents_of gone is)) (sym apart),
  )

  abbrev AreFollowed : Unspent → List (List ℕ) → Items → Type 0
  AreFollowed v gone items = AreDependents v gone (unnamed ids items)

  with_unnamed : (v : Unspent) (gone : List (List ℕ)) (i : ℕ × Transaction) (is : Items) → is_named ids i.1 ≡ false → AreDependents v gone (i ∷ unnamed ids is) → AreFollowed v gone (i ∷ is)
  with_unnamed v gone i is e d = subst (λ b. AreDependents v gone (cond (not b) (i ∷ unnamed ids is) (unnamed ids is))) (sym e) d

  with_named : (v : Unspent) (gone : List (List ℕ)) (i : ℕ × Transaction) (is : Items) → is_named ids i.1 ≡ true → AreFollowed v gone is → AreFollowed v gone (i ∷ is)
  with_named v gone i is e d = subst (λ b. AreDependents v gone (cond (not b) (i ∷ unnamed ids is) (unnamed ids is))) (sym e) d

  follow : (items : Items) (u v : Unspent) (gone : List (List ℕ)) → Stands u v gone items → AreFollowed v gone items
  follow [] u v gone s = (refl, refl)
  follow (i ∷ is) u v gone s = elim (is_named ids i.1) as (λ b. is_named ids i.1 ≡ b → AreFollowed v gone (i ∷ is)) [
    | true ↦ λ e. with_named v gone i is e (follow is (apply i.1 u) v gone (after_named u v gone i is s e))
    | false ↦ λ e. with_unnamed v gone i is e (elim (hangs_on gone i.1) as (λ h. hangs_on gone i.1 ≡ h → AreDependents v gone (i ∷ unnamed ids is)) [
      | true ↦ λ h. with_hanging v gone i (unnamed ids is) (falls u v gone i is s h) h (follow is (apply i.1 u) v (id_of i.1 ∷ gone) (after_hanging u v gone i is s))
      | false ↦ λ h. with_staying v gone i (unnamed ids is) (stays_valid u v gone i is s h) h (follow is (apply i.1 u) (apply i.1 v) gone (after_staying u v gone i is s e))
    ] refl)
  ] refl

module _ (accepts : Accepts) (p : Pool) (ids : List (List ℕ)) (law : IsLawful accepts p) (apart : IsApart p) where
  fresh : AllByRecursion (λ i. (r : OutRef) → r.id ≡ id_of i.1 → get p.ledger.utxo r ≡ None) p.items
  fresh =
      of_items (λ t. (r : OutRef) → r.id ≡ id_of t → get p.ledger.utxo r ≡ None) p.items
      (recursion_from_All (λ t. (r : OutRef) → r.id ≡ id_of t → get p.ledger.utxo r ≡ None) (transactions p.items) apart)

  stands : Stands accepts p.ledger.tick ids (get p.ledger.utxo) (get p.ledger.utxo) (ids_named ids p.items) p.items
  stands = record {
    chain = law.chained;
    apart = are_apart p.items law.distinct;
    told = named_told ids p.items;
    fresh = fresh;
    absent = λ r in_it. named_from ids (λ id. (q : OutRef) → q.id ≡ id → get p.ledger.utxo q ≡ None) p.items r.id fresh in_it r refl;
    still = λ r o out there. there;
  }

  pub dependents : DropsDependents accepts p ids
  dependents =
      let all = follow accepts p.ledger.tick ids p.items (get p.ledger.utxo) (get p.ledger.utxo) (ids_named ids p.items) stands in
      record { left = all.0; dropped = all.1 }
