-- A transaction that finds what it found when it was valid is valid.
use Rattle.std.proofs.Common.{◌≡◌, ℕ, List, [], ◌∷◌, map, refl, sym, ap, subst, ◌∙◌}
use Rattle.std.specs.Prelude.{Option, None, Some, IsSome, IfSome, All}
use Rattle.std.specs.Borrow.{Bor}
use Rattle.std.specs.List.{filter_map, cons_option}
use Rattle.std.proofs.lemmas.List.Elements.{All-nil, All-cons, All-head, All-tail}
use Rattle.mp_tx.specs.declared.output.Output.{Output}
use Rattle.mp_tx.specs.Transaction.{Transaction}
use Rattle.mp_utxo.specs.Apply.{Unspent}
use Rattle.mp_rules.specs.Verifier.{Accepts}
use Rattle.mp_rules.specs.Resolved.{Resolved, resolve}
use Rattle.mp_rules.specs.Validity.{InInterval, InputsThere, ReferencesThere, OutputsFresh, SignaturesAccepted, ValidatorsAccept, PoliciesAccept, Condition, OfTransaction, AtTick, OfResolved, OnMap, OfVerifier, row, Meets, Holds, IsValid}
use Rattle.mp_rules.specs.FirstFault.{validator_refused, policy_refused, first_of, first_fault}
use Rattle.mp_rules.specs.Checked.{script_refused, IsSigned, ScriptsAccept, WasValid}
use Rattle.mp_rules.specs.Laws.{ValidityIsLocal}
use Rattle.mp_rules.specs.Inside.Unmoved.{LeadTo, IsUnmoved}
use Rattle.mp_rules.proofs.Faults.{each_rule, of_each}
use Rattle.mp_rules.proofs.Valid.{valid, faultless}

module _ {X : Type 0} (found : X → Option Output) where
  -- if each leads to an output, each is there
  all_there : (xs : List X) (ys : List Output) → LeadTo found xs ys → All (λ x. IsSome (found x)) xs
  all_there [] ys e = All-nil (λ x. IsSome (found x))
  all_there (x ∷ xs) [] e = absurd (let f = e in Prim.cc)
  all_there (x ∷ xs) (y ∷ ys) e =
      let head : found x ≡ Some y = Prim.cc in
      All-cons (λ x. IsSome (found x)) x xs (subst IsSome (sym head) refl) (all_there xs ys (Prim.cc))

  -- and they are what is found
  all_found : (xs : List X) (ys : List Output) → LeadTo found xs ys → filter_map found xs ≡ ys
  all_found [] [] e = refl
  all_found [] (y ∷ ys) e = absurd (let f = e in Prim.cc)
  all_found (x ∷ xs) [] e = absurd (let f = e in Prim.cc)
  all_found (x ∷ xs) (y ∷ ys) e =
      let head : found x ≡ Some y = Prim.cc in
      ap (λ o. cons_option o (filter_map found xs)) head ∙ ap (λ l. y ∷ l) (all_found xs ys (Prim.cc))

-- looking up mapped items is the same as mapping the look-up
through : {X Y Z : Type 0} (found : Y → Option Z) (from : X → Y) (xs : List X) → filter_map found (map from xs) ≡ filter_map (λ x. found (from x)) xs
through found from [] = refl
through found from (x ∷ xs) = ap (cons_option (found (from x))) (through found from xs)

-- if the look-ups agree, the names do
found_alike : {X : Type 0} (f g : X → Option Output) (xs : List X) → All (λ x. f x ≡ g x) xs → filter_map f xs ≡ filter_map g xs
found_alike f g [] a = refl
found_alike f g (x ∷ xs) a =
    ap (λ o. cons_option o (filter_map f xs)) (All-head (λ x. f x ≡ g x) x xs a)
    ∙ ap (cons_option (g x)) (found_alike f g xs (All-tail (λ x. f x ≡ g x) x xs a))

there_alike : {X : Type 0} (f g : X → Option Output) (xs : List X) → All (λ x. f x ≡ g x) xs → All (λ x. IsSome (f x)) xs → All (λ x. IsSome (g x)) xs
there_alike f g [] a h = All-nil (λ x. IsSome (g x))
there_alike f g (x ∷ xs) a h =
    All-cons (λ x. IsSome (g x)) x xs (subst IsSome (All-head (λ x. f x ≡ g x) x xs a) (All-head (λ x. IsSome (f x)) x xs h))
    (there_alike f g xs (All-tail (λ x. f x ≡ g x) x xs a) (All-tail (λ x. IsSome (f x)) x xs h))

-- A valid transaction, for another verifier, on another map, and at another tick.
module _ (accepts other : Accepts) (u v : Unspent) (tick later : ℕ) (t : Transaction) (valid : IsValid accepts u tick t) (same : resolve u t ≡ resolve v t) where
  -- what must be shown of a condition; those on the transaction and on what it spends and reads still hold
  abbrev Anew : Condition → Type 0
  Anew (OfTransaction Is) = Unit {0}
  Anew (AtTick Is) = Is later t
  Anew (OfResolved Is) = Unit {0}
  Anew (OnMap Is) = Is v t
  Anew (OfVerifier Is) = Is other t

  met : (asks : Condition) → Meets accepts u tick t asks → Anew asks → Meets other v later t asks
  met (OfTransaction Is) was anew = was
  met (AtTick Is) was anew = anew
  met (OfResolved Is) was anew = subst (Is t) same was
  met (OnMap Is) was anew = anew
  met (OfVerifier Is) was anew = anew

  pub still : Holds other v later t InInterval → Holds other v later t InputsThere → Holds other v later t ReferencesThere → Holds other v later t OutputsFresh → Holds other v later t SignaturesAccepted → IsValid other v later t
  still interval inputs references fresh signed rule =
      met (row rule).asks (valid rule)
      (of_each (λ r. Anew (row r).asks) (tt, (interval, (tt, (inputs, (references, (tt, (tt, (fresh, (tt, (tt, (signed, (tt, (tt, tt))))))))))))) rule)

pub validity_is_local : ValidityIsLocal
validity_is_local accepts u v tick later t finds valid from to =
    still accepts accepts u v tick later t valid
    (λ i. record {
      spent = (through u (λ i. i.from) t.inputs ∙ found_alike (λ i. u i.from) (λ i. v i.from) t.inputs finds.inputs ∙ sym (through v (λ i. i.from) t.inputs)) i;
      referenced = found_alike u v t.references finds.references i;
    })
    (from, to) (there_alike (λ i. u i.from) (λ i. v i.from) t.inputs finds.inputs (valid InputsThere)) (there_alike u v t.references finds.references (valid ReferencesThere))
    (λ k lt. sym (finds.own k lt) ∙ valid OutputsFresh k lt) (valid SignaturesAccepted)

module _ (t : Transaction) (r : Resolved) (was : WasValid t r) where
  there : IsValid was.accepts was.there was.tick t
  there = valid was.accepts was.there was.tick t was.clear

  pub scripts_accept : ScriptsAccept t r
  unfolding script_refused
  scripts_accept =
      let validators = (each_rule was.accepts was.there was.tick t ValidatorsAccept).none (there ValidatorsAccept) in
      let policies = (each_rule was.accepts was.there was.tick t PoliciesAccept).none (there PoliciesAccept) in
      ap (λ x. first_of (validator_refused t x ∷ policy_refused t x ∷ [])) was.named
      ∙ ap (λ o. first_of (o ∷ policy_refused t (resolve was.there t) ∷ [])) validators ∙ ap (λ o. first_of (o ∷ [])) policies

  module _ (accepts : Accepts) (u : Unspent) (tick : ℕ) (signed : IsSigned accepts t) (meets : IsUnmoved u tick t r) where
    same : resolve was.there t ≡ resolve u t
    same =
        sym was.named
        ∙ (λ i. record {
          spent = sym (through u (λ i. i.from) t.inputs ∙ all_found (λ i. u i.from) t.inputs r.spent meets.inputs) i;
          referenced = sym (all_found u t.references r.referenced meets.references) i;
        })

    pub stays_clear : first_fault accepts u tick t ≡ None
    stays_clear =
        faultless accepts u tick t (still was.accepts accepts was.there u was.tick tick t there same ((each_rule accepts u tick t InInterval).holds meets.interval)
        (all_there (λ i. u i.from) t.inputs r.spent meets.inputs) (all_there u t.references r.referenced meets.references)
        ((each_rule accepts u tick t OutputsFresh).holds meets.fresh) ((each_rule accepts u tick t SignaturesAccepted).holds signed))

-- if it was valid before, its scripts accepted
pub once_accepted : (t : Transaction) (before : Option (Bor Resolved)) → IfSome before (λ b. WasValid t b.now) → IfSome before (λ b. ScriptsAccept t b.now)
once_accepted t None was = tt
once_accepted t (Some b) was = scripts_accept t b.now was
