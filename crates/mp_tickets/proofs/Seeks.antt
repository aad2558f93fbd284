-- The loops that go back through a list: the nodes that were visited, and the remaining ones.
use Rattle.std.proofs.Common.{◌≡◌, ℕ, ◌+◌, ◌<◌, ◌%◌, ◌==◌, Bool, true, false, cond, List, [], ◌∷◌, ◌++◌, length, Option, Some, None, ◌⊎◌, inl, inr, refl, sym, ap, ◌∙◌, subst, append_assoc, append-nil, length-append, arith}
use Rattle.std.proofs.lemmas.Bool.{eqb-false}
use Rattle.std.proofs.lemmas.Nat.{mod_below}
use Rattle.lru.specs.Linked.{same_ptr, IsApart}
use Rattle.lru.proofs.Apart.{same_ptr_refl}
use Rattle.lru.proofs.Splits.{distinct_differs, all_left}
use Rattle.lru.proofs.Apart.{same_ptr_symm}
use Rattle.mp_tickets.specs.Inside.Cell.{ptrs, IsAt}
use Rattle.mp_tickets.specs.declared.node_store.NodePtr.{NodePtr}
use Rattle.mp_tickets.specs.declared.chain.Chain.{Chain}
use Rattle.mp_tickets.specs.Inside.Links.{first_of, last_of, Back, StoredNode, ptr_of, bucket_prevs}
use Rattle.mp_tickets.specs.Inside.Chain.{bucket_back_at, bucket_count, IsChained}
use Rattle.mp_tickets.specs.Inside.Found.{IsFound, HasNone}
use Rattle.mp_tickets.proofs.Apart.{IsFresh}
use Rattle.mp_tickets.proofs.Links.{last_of-append, Back-right, bucket_prevs-append, bucket_prevs-in, bucket_prevs-out}

pub cons_nil : {X : Type 0} (x : X) (xs : List X) → x ∷ xs ≡ [] → ⊥
cons_nil x xs e = cc

pub some_none : {X : Type 0} (x : X) → Some x ≡ None → ⊥
some_none x e = cc

pub same_some : {X : Type 0} (x y : X) → Some x ≡ Some y → x ≡ y
same_some x y e = cc

module _ {T : Type 0} where
  -- the nodes up to the one at the pointer
  abbrev pub up_to : Option NodePtr → List (StoredNode T) → List (StoredNode T)
  up_to None cs = []
  up_to (Some p) [] = []
  up_to (Some p) (c ∷ cs) = cond (same_ptr p.at c.at) (c ∷ []) (c ∷ up_to (Some p) cs)

  up_to-fresh : (xs : List (StoredNode T)) (c : StoredNode T) (ys : List (StoredNode T)) → IsFresh c.at xs → up_to (Some (ptr_of c)) (xs ++ c ∷ ys) ≡ xs ++ c ∷ []
  up_to-fresh [] c ys f = ap (λ (b : Bool). cond b (c ∷ []) (c ∷ up_to (Some (ptr_of c)) ys)) (same_ptr_refl c.at)
  up_to-fresh (x ∷ xs) c ys f = ap (λ (b : Bool). cond b (x ∷ []) (x ∷ up_to (Some (ptr_of c)) (xs ++ c ∷ ys))) f.0 ∙ ap (λ l. x ∷ l) (up_to-fresh xs c ys f.1)

  pub up_to-cut : (cs xs : List (StoredNode T)) (c : StoredNode T) (ys : List (StoredNode T)) → IsApart (ptrs cs) → cs ≡ xs ++ c ∷ ys → up_to (Some (ptr_of c)) cs ≡ xs ++ c ∷ []
  up_to-cut cs xs c ys d cut =
      let others = distinct_differs (λ (k : StoredNode T). k.at) same_ptr same_ptr_symm xs c ys (subst (λ l. IsApart (ptrs l)) cut d) in
      ap (up_to (Some (ptr_of c))) cut ∙ up_to-fresh xs c ys (all_left (λ k. same_ptr c.at k.at ≡ false) xs ys others)

  -- the last node of a bucket, if it has one
  abbrev pub HasLast : ℕ → ℕ → List (StoredNode T) → Type 0
  HasLast m k cs = (us : List (StoredNode T)) × (c : StoredNode T) × (vs : List (StoredNode T)) × (cs ≡ us ++ c ∷ vs) × (bucket_prevs m k vs ≡ []) × ((c.value.ticket % m == k) ≡ true)

  pub last_in : (m k : ℕ) (cs : List (StoredNode T)) → (bucket_prevs m k cs ≡ []) ⊎ HasLast m k cs
  last_in m k [] = inl refl
  last_in m k (c ∷ cs) = elim (last_in m k cs) [
    | inr on ↦ inr (c ∷ on.0, on.1, on.2, ap (λ l. c ∷ l) on.3, on.4, on.5)
    | inl none ↦ (elim (c.value.ticket % m == k) as (λ (t : Bool). (c.value.ticket % m == k) ≡ t → (bucket_prevs m k (c ∷ cs) ≡ []) ⊎ HasLast m k (c ∷ cs)) [
      | true ↦ λ e. inr ([], c, cs, refl, none, e)
      | false ↦ λ e. inl (bucket_prevs-out m k c cs e ∙ none)
    ]) refl
  ]

  pub last_there : (m k : ℕ) (us : List (StoredNode T)) (c : StoredNode T) (vs : List (StoredNode T)) → bucket_prevs m k vs ≡ [] → (c.value.ticket % m == k) ≡ true → last_of None (bucket_prevs m k (us ++ c ∷ vs)) ≡ Some (ptr_of c)
  last_there m k us c vs none t =
      ap (last_of None) (bucket_prevs-append m k us (c ∷ vs)) ∙ last_of-append None (bucket_prevs m k us) (bucket_prevs m k (c ∷ vs)) ∙ ap (last_of (last_of None (bucket_prevs m k us))) (bucket_prevs-in m k c vs t) ∙ ap (last_of (Some (ptr_of c))) none

  -- a node outside its bucket doesn't have the ticket
  other_bucket : (m ticket : ℕ) (c : StoredNode T) → (c.value.ticket % m == ticket % m) ≡ false → c.value.ticket ≡ ticket → ⊥
  other_bucket m ticket c e same = eqb-false (c.value.ticket % m) (ticket % m) e (ap (λ n. n % m) same)

  pub none_in : (m ticket : ℕ) (cs : List (StoredNode T)) → bucket_prevs m (ticket % m) cs ≡ [] → HasNone ticket cs
  none_in m ticket [] e = tt
  none_in m ticket (c ∷ cs) e = let k = ticket % m in (elim (c.value.ticket % m == k) as (λ (t : Bool). (c.value.ticket % m == k) ≡ t → HasNone ticket (c ∷ cs)) [
    | true ↦ λ t. absurd (cons_nil (ptr_of c, c.value.bucket_prev) (bucket_prevs m k cs) (sym (bucket_prevs-in m k c cs t) ∙ e))
    | false ↦ λ t. (other_bucket m ticket c t, none_in m ticket cs (sym (bucket_prevs-out m k c cs t) ∙ e))
  ]) refl

  pub none_both : (ticket : ℕ) (xs ys : List (StoredNode T)) → HasNone ticket xs → HasNone ticket ys → HasNone ticket (xs ++ ys)
  none_both ticket [] ys h k = k
  none_both ticket (x ∷ xs) ys h k = (h.0, none_both ticket xs ys h.1 k)

-- the bucket was searched from its end back to the node at `at`, and the ticket wasn't found
abbrev pub Looks : {T : Type 0} → ℕ → ℕ → List (StoredNode T) → Option NodePtr → Option NodePtr → Type 0
Looks {T} m ticket cs bucket_next at = (us : List (StoredNode T)) × (vs : List (StoredNode T)) × (cs ≡ us ++ vs) × (at ≡ last_of None (bucket_prevs m (ticket % m) us)) × (bucket_next ≡ first_of (bucket_prevs m (ticket % m) vs) None) × HasNone ticket vs

module _ {T : Type 0} (o : Chain T) (chained : IsChained o) (ticket : ℕ) where
  abbrev pub m : ℕ
  m = bucket_count o

  abbrev pub k : ℕ
  k = ticket % m

  pub record Stands (bucket_next : Option NodePtr) (p : NodePtr) : Type 0 where
    pub us : List (StoredNode T)
    pub c : StoredNode T
    pub vs : List (StoredNode T)
    pub cut : o.nodes.cells ≡ us ++ c ∷ vs
    pub here : ptr_of c ≡ p
    pub mine : (c.value.ticket % m == k) ≡ true
    pub bucket_next_is : bucket_next ≡ first_of (bucket_prevs m k vs) None
    pub none : HasNone ticket vs

  pub stands : (bucket_next : Option NodePtr) (p : NodePtr) → Looks m ticket o.nodes.cells bucket_next (Some p) → Stands bucket_next p
  stands bucket_next p looks = elim (last_in m k looks.0) [
    | inl none ↦ absurd (some_none p (looks.3 ∙ ap (last_of None) none))
    | inr on ↦ record {
      us = on.0;
      c = on.1;
      vs = on.2 ++ looks.1;
      cut = looks.2 ∙ ap (λ l. l ++ looks.1) on.3 ∙ append_assoc on.0 (on.1 ∷ on.2) looks.1;
      here = sym (same_some p (ptr_of on.1) (looks.3 ∙ ap (λ l. last_of None (bucket_prevs m k l)) on.3 ∙ last_there m k on.0 on.1 on.2 on.4 on.5));
      mine = on.5;
      bucket_next_is = looks.4 ∙ sym (ap (λ l. first_of l None) (bucket_prevs-append m k on.2 looks.1 ∙ ap (λ l. l ++ bucket_prevs m k looks.1) on.4));
      none = none_both ticket on.2 looks.1 (none_in m ticket on.2 on.4) looks.5;
    }
  ]

  module _ (bucket_next : Option NodePtr) (p : NodePtr) (s : Stands bucket_next p) where
    pub stands_at : IsAt o.nodes.cells p.at
    stands_at = (s.us, s.c, s.vs, s.cut, ap (λ (q : NodePtr). q.at) s.here)

    pub finds : s.c.value.ticket ≡ ticket → IsFound m ticket o.nodes.cells (record { ptr = p; bucket_next = bucket_next })
    finds e = (s.us, s.c, s.vs, s.cut, ap (λ (q : NodePtr). q.at) s.here, e, s.bucket_next_is)

    bucket_prev_is : s.c.value.bucket_prev ≡ last_of None (bucket_prevs m k s.us)
    bucket_prev_is =
        let whole = subst (Back None) (ap (bucket_prevs m k) s.cut ∙ bucket_prevs-append m k s.us (s.c ∷ s.vs)) (chained.bucketed k (mod_below ticket m chained.some)) in
        (subst (Back (last_of None (bucket_prevs m k s.us))) (bucket_prevs-in m k s.c s.vs s.mine) (Back-right None (bucket_prevs m k s.us) (bucket_prevs m k (s.c ∷ s.vs)) whole)).0

    pub looks_on : (s.c.value.ticket ≡ ticket → ⊥) → Looks m ticket o.nodes.cells (Some p) s.c.value.bucket_prev
    looks_on other = (s.us, s.c ∷ s.vs, s.cut, bucket_prev_is, ap Some (sym s.here) ∙ sym (ap (λ l. first_of l None) (bucket_prevs-in m k s.c s.vs s.mine)), (other, s.none))

    here_long : length (up_to (Some p) o.nodes.cells) ≡ length s.us + 1
    here_long = ap (λ q. length (up_to (Some q) o.nodes.cells)) (sym s.here) ∙ ap length (up_to-cut o.nodes.cells s.us s.c s.vs o.nodes.apart s.cut) ∙ length-append s.us (s.c ∷ [])

    pub looks_less : length (up_to s.c.value.bucket_prev o.nodes.cells) < length (up_to (Some p) o.nodes.cells)
    looks_less = subst (λ q. length (up_to q o.nodes.cells) < length (up_to (Some p) o.nodes.cells)) (sym bucket_prev_is) (elim (last_in m k s.us) [
      | inl none ↦ subst (λ l. length (up_to (last_of None l) o.nodes.cells) < length (up_to (Some p) o.nodes.cells)) (sym none) (let long = here_long in omega arith)
      | inr on ↦
          let from = ap (λ l. last_of None (bucket_prevs m k l)) on.3 ∙ last_there m k on.0 on.1 on.2 on.4 on.5 in
          let cut = s.cut ∙ ap (λ l. l ++ s.c ∷ s.vs) on.3 ∙ append_assoc on.0 (on.1 ∷ on.2) (s.c ∷ s.vs) in
          let short = ap (λ q. length (up_to q o.nodes.cells)) from ∙ ap length (up_to-cut o.nodes.cells on.0 on.1 (on.2 ++ s.c ∷ s.vs) o.nodes.apart cut) ∙ length-append on.0 (on.1 ∷ []) in
          let parts = ap length on.3 ∙ length-append on.0 (on.1 ∷ on.2) in let long = here_long in
          omega arith
    ])

  pub looks_end : (bucket_next : Option NodePtr) → Looks m ticket o.nodes.cells bucket_next None → HasNone ticket o.nodes.cells
  looks_end bucket_next looks = elim (last_in m k looks.0) [
    | inl none ↦ subst (HasNone ticket) (sym looks.2) (none_both ticket looks.0 looks.1 (none_in m ticket looks.0 none) looks.5)
    | inr on ↦ absurd (some_none (ptr_of on.1) (sym (looks.3 ∙ ap (λ l. last_of None (bucket_prevs m k l)) on.3 ∙ last_there m k on.0 on.1 on.2 on.4 on.5)))
  ]
