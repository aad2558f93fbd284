-- A list of nodes that is split in two, and whose links are joined again.
use Rattle.std.proofs.Common.{◌≡◌, ℕ, ◌%◌, ◌==◌, Bool, true, false, cond, List, [], ◌∷◌, ◌++◌, Option, Some, None, ◌⊎◌, inl, inr, refl, sym, ap, ◌∙◌, subst, append_assoc}
use Rattle.std.proofs.lemmas.Bool.{eqb-true, eqb-false, ne_eqb}
use Rattle.std.proofs.lemmas.List.{map-append}
use Rattle.mp_tickets.specs.Inside.Cell.{cell, IsAt}
use Rattle.mp_tickets.specs.declared.node_store.NodePtr.{NodePtr}
use Rattle.mp_tickets.specs.declared.node.Link.{Link}
use Rattle.mp_tickets.specs.Inside.Links.{Step, first_of, last_of, Forward, Back, StoredNode, ptr_of, pairs, nexts, prevs, bucket_prevs}
use Rattle.mp_tickets.specs.Inside.Relinks.{MayBeAt, Relinks, SetsOne, with_next, with_prev, with_bucket_prev}

pub first_of-append : (ss ts : List Step) (n : Option NodePtr) → first_of (ss ++ ts) n ≡ first_of ss (first_of ts n)
first_of-append [] ts n = refl
first_of-append (s ∷ ss) ts n = refl

pub last_of-append : (p : Option NodePtr) (ss ts : List Step) → last_of p (ss ++ ts) ≡ last_of (last_of p ss) ts
last_of-append p [] ts = refl
last_of-append p (s ∷ ss) ts = last_of-append (Some s.0) ss ts

pub Forward-left : (ss ts : List Step) (n : Option NodePtr) → Forward (ss ++ ts) n → Forward ss (first_of ts n)
Forward-left [] ts n f = tt
Forward-left (s ∷ ss) ts n f = (f.0 ∙ first_of-append ss ts n, Forward-left ss ts n f.1)

pub Forward-right : (ss ts : List Step) (n : Option NodePtr) → Forward (ss ++ ts) n → Forward ts n
Forward-right [] ts n f = f
Forward-right (s ∷ ss) ts n f = Forward-right ss ts n f.1

pub Forward-both : (ss ts : List Step) (n : Option NodePtr) → Forward ss (first_of ts n) → Forward ts n → Forward (ss ++ ts) n
Forward-both [] ts n f g = g
Forward-both (s ∷ ss) ts n f g = (f.0 ∙ sym (first_of-append ss ts n), Forward-both ss ts n f.1 g)

pub Back-left : (p : Option NodePtr) (ss ts : List Step) → Back p (ss ++ ts) → Back p ss
Back-left p [] ts b = tt
Back-left p (s ∷ ss) ts b = (b.0, Back-left (Some s.0) ss ts b.1)

pub Back-right : (p : Option NodePtr) (ss ts : List Step) → Back p (ss ++ ts) → Back (last_of p ss) ts
Back-right p [] ts b = b
Back-right p (s ∷ ss) ts b = Back-right (Some s.0) ss ts b.1

pub Back-both : (p : Option NodePtr) (ss ts : List Step) → Back p ss → Back (last_of p ss) ts → Back p (ss ++ ts)
Back-both p [] ts b d = d
Back-both p (s ∷ ss) ts b d = (b.0, Back-both (Some s.0) ss ts b.1 d)

pub one_bucket : (t j k : ℕ) → (t == k) ≡ true → (j == k) ≡ false → (t == j) ≡ false
one_bucket t j k same other = ne_eqb t j (λ e. eqb-false j k other (sym e ∙ eqb-true t k same))

-- a list is empty, or has a last element
pub ends : {X : Type 0} (xs : List X) → (xs ≡ []) ⊎ ((us : List X) × (x : X) × (xs ≡ us ++ x ∷ []))
ends [] = inl refl
ends {X} (x ∷ xs) = elim (ends xs) [
  | inl e ↦ inr ([], x, ap (λ l. x ∷ l) e)
  | inr on ↦ inr (x ∷ on.0, on.1, ap (λ l. x ∷ l) on.2)
]

module _ {T : Type 0} where
  pub nexts-append : (xs ys : List (StoredNode T)) → nexts (xs ++ ys) ≡ nexts xs ++ nexts ys
  nexts-append = map-append (λ (c : StoredNode T). (ptr_of c, c.value.next))

  pub prevs-append : (xs ys : List (StoredNode T)) → prevs (xs ++ ys) ≡ prevs xs ++ prevs ys
  prevs-append = map-append (λ (c : StoredNode T). (ptr_of c, c.value.prev))

  pub pairs-append : (xs ys : List (StoredNode T)) → pairs (xs ++ ys) ≡ pairs xs ++ pairs ys
  pairs-append = map-append (λ (c : StoredNode T). (c.value.ticket, c.value.item))

  pub bucket_prevs-append : (m k : ℕ) (xs ys : List (StoredNode T)) → bucket_prevs m k (xs ++ ys) ≡ bucket_prevs m k xs ++ bucket_prevs m k ys
  bucket_prevs-append m k [] ys = refl
  bucket_prevs-append m k (x ∷ xs) ys =
      let here : Step = (ptr_of x, x.value.bucket_prev) in
      elim (x.value.ticket % m == k) as (λ (t : Bool). cond t (here ∷ bucket_prevs m k (xs ++ ys)) (bucket_prevs m k (xs ++ ys)) ≡ cond t (here ∷ bucket_prevs m k xs) (bucket_prevs m k xs) ++ bucket_prevs m k ys) [
        | true ↦ ap (λ l. here ∷ l) (bucket_prevs-append m k xs ys)
        | false ↦ bucket_prevs-append m k xs ys
      ]

  pub bucket_prevs-in : (m k : ℕ) (c : StoredNode T) (cs : List (StoredNode T)) → (c.value.ticket % m == k) ≡ true → bucket_prevs m k (c ∷ cs) ≡ (ptr_of c, c.value.bucket_prev) ∷ bucket_prevs m k cs
  bucket_prevs-in m k c cs t = ap (λ (b : Bool). cond b ((ptr_of c, c.value.bucket_prev) ∷ bucket_prevs m k cs) (bucket_prevs m k cs)) t

  pub bucket_prevs-out : (m k : ℕ) (c : StoredNode T) (cs : List (StoredNode T)) → (c.value.ticket % m == k) ≡ false → bucket_prevs m k (c ∷ cs) ≡ bucket_prevs m k cs
  bucket_prevs-out m k c cs t = ap (λ (b : Bool). cond b ((ptr_of c, c.value.bucket_prev) ∷ bucket_prevs m k cs) (bucket_prevs m k cs)) t

  -- the first node of a bucket, if it has one
  abbrev pub HasFirst : ℕ → ℕ → List (StoredNode T) → Type 0
  HasFirst m k cs = (us : List (StoredNode T)) × (c : StoredNode T) × (vs : List (StoredNode T)) × (cs ≡ us ++ c ∷ vs) × (bucket_prevs m k us ≡ []) × ((c.value.ticket % m == k) ≡ true)

  pub first_in : (m k : ℕ) (cs : List (StoredNode T)) → (bucket_prevs m k cs ≡ []) ⊎ HasFirst m k cs
  first_in m k [] = inl refl
  first_in m k (c ∷ cs) = (elim (c.value.ticket % m == k) as (λ (t : Bool). (c.value.ticket % m == k) ≡ t → (bucket_prevs m k (c ∷ cs) ≡ []) ⊎ HasFirst m k (c ∷ cs)) [
    | true ↦ λ e. inr ([], c, cs, refl, refl, e)
    | false ↦ λ e. elim (first_in m k cs) [
      | inl none ↦ inl (bucket_prevs-out m k c cs e ∙ none)
      | inr on ↦ inr (c ∷ on.0, on.1, on.2, ap (λ l. c ∷ l) on.3, bucket_prevs-out m k c on.0 e ∙ on.4, on.5)
    ]
  ]) refl

  pub bucket_prevs-first : (m k : ℕ) (us : List (StoredNode T)) (c : StoredNode T) (vs : List (StoredNode T)) → bucket_prevs m k us ≡ [] → (c.value.ticket % m == k) ≡ true
      → bucket_prevs m k (us ++ c ∷ vs) ≡ (ptr_of c, c.value.bucket_prev) ∷ bucket_prevs m k vs
  bucket_prevs-first m k us c vs none t = bucket_prevs-append m k us (c ∷ vs) ∙ (λ i. none i ++ bucket_prevs-in m k c vs t i)

  module _ (change : Option NodePtr → Link T → Link T) (at to end new_end : Option NodePtr) (cs new_cs : List (StoredNode T)) (sets : SetsOne change at to end new_end cs new_cs) where
    pub set_none : at ≡ None → (new_end ≡ to) × (new_cs ≡ cs)
    set_none e = subst (λ (a : Option NodePtr). SetsOne change a to end new_end cs new_cs) e sets

    pub set_some : (p : NodePtr) → at ≡ Some p → (new_end ≡ end) × Relinks (change to) cs p new_cs
    set_some p e = subst (λ (a : Option NodePtr). SetsOne change a to end new_end cs new_cs) e sets

  -- what `set_next` leaves of a list that is split at the target of the new link
  pub record NextSet (xs ys new : List (StoredNode T)) (front next : Option NodePtr) : Type 0 where
    pub xs1 : List (StoredNode T)
    pub cut : new ≡ xs1 ++ ys
    pub forward : Forward (nexts xs1) next
    pub front_is : front ≡ first_of (nexts xs1) next
    pub same_prevs : prevs xs1 ≡ prevs xs
    pub same_bucket_prevs : (m k : ℕ) → bucket_prevs m k xs1 ≡ bucket_prevs m k xs
    pub same_pairs : pairs xs1 ≡ pairs xs

  next_inside : (next n front new_front : Option NodePtr) (us : List (StoredNode T)) (x : StoredNode T) (ys cs new : List (StoredNode T)) → (new_front ≡ front) × Relinks (with_next next) cs (ptr_of x) new → cs ≡ (us ++ x ∷ []) ++ ys
      → Forward (nexts (us ++ x ∷ [])) n → front ≡ first_of (nexts (us ++ x ∷ [])) n → NextSet (us ++ x ∷ []) ys new new_front next
  next_inside next n front new_front us x ys cs new sets cut f front_is =
      let y : StoredNode T = cell x.at (with_next next x.value) in
      let left : Forward (nexts us) (Some (ptr_of x)) = Forward-left (nexts us) (nexts (x ∷ [])) n (subst (λ l. Forward l n) (nexts-append us (x ∷ [])) f) in
      record {
        xs1 = us ++ y ∷ [];
        cut = sets.1 us x ys (cut ∙ append_assoc us (x ∷ []) ys) refl ∙ sym (append_assoc us (y ∷ []) ys);
        forward = subst (λ l. Forward l next) (sym (nexts-append us (y ∷ []))) (Forward-both (nexts us) (nexts (y ∷ [])) next left (refl, tt));
        front_is = sets.0 ∙ front_is ∙ ap (λ l. first_of l n) (nexts-append us (x ∷ [])) ∙ first_of-append (nexts us) (nexts (x ∷ [])) n ∙ sym (ap (λ l. first_of l next) (nexts-append us (y ∷ [])) ∙ first_of-append (nexts us) (nexts (y ∷ [])) next);
        same_prevs = prevs-append us (y ∷ []) ∙ sym (prevs-append us (x ∷ []));
        same_bucket_prevs = λ m k. bucket_prevs-append m k us (y ∷ []) ∙ sym (bucket_prevs-append m k us (x ∷ []));
        same_pairs = pairs-append us (y ∷ []) ∙ sym (pairs-append us (x ∷ []));
      }

  pub last_prev : (us : List (StoredNode T)) (x : StoredNode T) → last_of None (prevs (us ++ x ∷ [])) ≡ Some (ptr_of x)
  last_prev us x = ap (last_of None) (prevs-append us (x ∷ [])) ∙ last_of-append None (prevs us) (prevs (x ∷ []))

  pub next_set : (at next n front new_front : Option NodePtr) (xs ys cs new : List (StoredNode T)) → SetsOne with_next at next front new_front cs new → cs ≡ xs ++ ys → at ≡ last_of None (prevs xs)
      → Forward (nexts xs) n → front ≡ first_of (nexts xs) n → NextSet xs ys new new_front next
  next_set at next n front new_front xs ys cs new sets cut leads f front_is = elim (ends xs) [
    | inl none ↦
        let here = set_none with_next at next front new_front cs new sets (leads ∙ ap (λ l. last_of None (prevs l)) none) in
        record { xs1 = []; cut = here.1 ∙ cut ∙ ap (λ l. l ++ ys) none; forward = tt; front_is = here.0; same_prevs = ap prevs (sym none); same_bucket_prevs = λ m k. ap (bucket_prevs m k) (sym none); same_pairs = ap pairs (sym none) }
    | inr on ↦
        let us = on.0 in let x = on.1 in let e = on.2 in
        let here = set_some with_next at next front new_front cs new sets (ptr_of x) (leads ∙ ap (λ l. last_of None (prevs l)) e ∙ last_prev us x) in
        subst (λ l. NextSet l ys new new_front next) (sym e) (next_inside next n front new_front us x ys cs new here (cut ∙ ap (λ l. l ++ ys) e) (subst (λ l. Forward (nexts l) n) e f) (front_is ∙ ap (λ l. first_of (nexts l) n) e))
  ]

  pub record PrevSet (xs ys new : List (StoredNode T)) (back prev : Option NodePtr) : Type 0 where
    pub ys1 : List (StoredNode T)
    pub cut : new ≡ xs ++ ys1
    pub backward : Back prev (prevs ys1)
    pub back_is : back ≡ last_of prev (prevs ys1)
    pub same_nexts : nexts ys1 ≡ nexts ys
    pub same_bucket_prevs : (m k : ℕ) → bucket_prevs m k ys1 ≡ bucket_prevs m k ys
    pub same_pairs : pairs ys1 ≡ pairs ys

  pub prev_set : (at prev p back new_back : Option NodePtr) (xs ys cs new : List (StoredNode T)) → SetsOne with_prev at prev back new_back cs new → cs ≡ xs ++ ys → at ≡ first_of (nexts ys) None
      → Back p (prevs ys) → back ≡ last_of p (prevs ys) → PrevSet xs ys new new_back prev
  prev_set at prev p back new_back xs [] cs new sets cut leads b back_is =
      let here = set_none with_prev at prev back new_back cs new sets leads in
      record { ys1 = []; cut = here.1 ∙ cut; backward = tt; back_is = here.0; same_nexts = refl; same_bucket_prevs = λ m k. refl; same_pairs = refl }
  prev_set at prev p back new_back xs (y ∷ ys) cs new sets cut leads b back_is =
      let here = set_some with_prev at prev back new_back cs new sets (ptr_of y) leads in
      record { ys1 = cell y.at (with_prev prev y.value) ∷ ys; cut = here.1 xs y ys cut refl; backward = (refl, b.1); back_is = here.0 ∙ back_is; same_nexts = refl; same_bucket_prevs = λ m k. refl; same_pairs = refl }

  pub record BucketPrevSet (xs ys new : List (StoredNode T)) (m k : ℕ) (bucket_back bucket_prev : Option NodePtr) : Type 0 where
    pub ys1 : List (StoredNode T)
    pub cut : new ≡ xs ++ ys1
    pub bucketed : Back bucket_prev (bucket_prevs m k ys1)
    pub bucket_back_is : bucket_back ≡ last_of bucket_prev (bucket_prevs m k ys1)
    pub same_nexts : nexts ys1 ≡ nexts ys
    pub same_prevs : prevs ys1 ≡ prevs ys
    pub same_bucket_prevs : (j : ℕ) → (j == k) ≡ false → bucket_prevs m j ys1 ≡ bucket_prevs m j ys
    pub same_pairs : pairs ys1 ≡ pairs ys

  bucket_prev_inside : (m k : ℕ) (bucket_prev p bucket_back new_bucket_back : Option NodePtr) (xs us : List (StoredNode T)) (y : StoredNode T) (vs cs new : List (StoredNode T)) → (new_bucket_back ≡ bucket_back) × Relinks (with_bucket_prev bucket_prev) cs (ptr_of y) new
      → cs ≡ xs ++ (us ++ y ∷ vs) → bucket_prevs m k us ≡ [] → (y.value.ticket % m == k) ≡ true → Back p (bucket_prevs m k (us ++ y ∷ vs)) → bucket_back ≡ last_of p (bucket_prevs m k (us ++ y ∷ vs)) → BucketPrevSet xs (us ++ y ∷ vs) new m k new_bucket_back bucket_prev
  bucket_prev_inside m k bucket_prev p bucket_back new_bucket_back xs us y vs cs new sets cut none t b bucket_back_is =
      let z : StoredNode T = cell y.at (with_bucket_prev bucket_prev y.value) in
      let first = bucket_prevs-first m k us y vs none t in let then = bucket_prevs-first m k us z vs none t in
      let rest : Back (Some (ptr_of y)) (bucket_prevs m k vs) = (subst (λ l. Back p l) first b).1 in
      record {
        ys1 = us ++ z ∷ vs;
        cut = sets.1 (xs ++ us) y vs (cut ∙ sym (append_assoc xs us (y ∷ vs))) refl ∙ append_assoc xs us (z ∷ vs);
        bucketed = subst (λ l. Back bucket_prev l) (sym then) (refl, rest);
        bucket_back_is = sets.0 ∙ bucket_back_is ∙ ap (last_of p) first ∙ sym (ap (last_of bucket_prev) then);
        same_nexts = nexts-append us (z ∷ vs) ∙ sym (nexts-append us (y ∷ vs));
        same_prevs = prevs-append us (z ∷ vs) ∙ sym (prevs-append us (y ∷ vs));
        same_bucket_prevs = λ j other.
            let apart = one_bucket (y.value.ticket % m) j k t other in
            bucket_prevs-append m j us (z ∷ vs) ∙ ap (λ l. bucket_prevs m j us ++ l) (bucket_prevs-out m j z vs apart ∙ sym (bucket_prevs-out m j y vs apart)) ∙ sym (bucket_prevs-append m j us (y ∷ vs));
        same_pairs = pairs-append us (z ∷ vs) ∙ sym (pairs-append us (y ∷ vs));
      }

  pub bucket_prev_set : (m k : ℕ) (at bucket_prev p bucket_back new_bucket_back : Option NodePtr) (xs ys cs new : List (StoredNode T)) → SetsOne with_bucket_prev at bucket_prev bucket_back new_bucket_back cs new → cs ≡ xs ++ ys → at ≡ first_of (bucket_prevs m k ys) None
      → Back p (bucket_prevs m k ys) → bucket_back ≡ last_of p (bucket_prevs m k ys) → BucketPrevSet xs ys new m k new_bucket_back bucket_prev
  bucket_prev_set m k at bucket_prev p bucket_back new_bucket_back xs ys cs new sets cut leads b bucket_back_is = elim (first_in m k ys) [
    | inl none ↦
        let here = set_none with_bucket_prev at bucket_prev bucket_back new_bucket_back cs new sets (leads ∙ ap (λ l. first_of l None) none) in
        record { ys1 = ys; cut = here.1 ∙ cut; bucketed = subst (Back bucket_prev) (sym none) tt; bucket_back_is = here.0 ∙ sym (ap (last_of bucket_prev) none); same_nexts = refl; same_prevs = refl; same_bucket_prevs = λ j other. refl; same_pairs = refl }
    | inr on ↦
        let us = on.0 in let y = on.1 in let vs = on.2 in let e = on.3 in
        let here = set_some with_bucket_prev at bucket_prev bucket_back new_bucket_back cs new sets (ptr_of y) (leads ∙ ap (λ l. first_of (bucket_prevs m k l) None) e ∙ ap (λ l. first_of l None) (bucket_prevs-first m k us y vs on.4 on.5)) in
        subst (λ l. BucketPrevSet xs l new m k new_bucket_back bucket_prev) (sym e)
        (bucket_prev_inside m k bucket_prev p bucket_back new_bucket_back xs us y vs cs new here (cut ∙ ap (λ l. xs ++ l) e) on.4 on.5 (subst (λ l. Back p (bucket_prevs m k l)) e b) (bucket_back_is ∙ ap (λ l. last_of p (bucket_prevs m k l)) e))
  ]

  -- a link leads to a node of the list, or to none
  here_at : (xs : List (StoredNode T)) (c : StoredNode T) (ys : List (StoredNode T)) (cs : List (StoredNode T)) → cs ≡ xs ++ c ∷ ys → IsAt cs c.at
  here_at xs c ys cs e = (xs, c, ys, e, refl)

  pub last_at : (xs ys cs : List (StoredNode T)) → cs ≡ xs ++ ys → MayBeAt cs (last_of None (prevs xs))
  last_at xs ys cs cut = elim (ends xs) [
    | inl none ↦ subst (λ l. MayBeAt cs (last_of None (prevs l))) (sym none) tt
    | inr on ↦ subst (λ l. MayBeAt cs (last_of None (prevs l))) (sym on.2)
        (subst (MayBeAt cs) (sym (last_prev on.0 on.1)) (here_at on.0 on.1 ys cs (cut ∙ ap (λ l. l ++ ys) on.2 ∙ append_assoc on.0 (on.1 ∷ []) ys)))
  ]

  pub first_at : (xs ys cs : List (StoredNode T)) → cs ≡ xs ++ ys → MayBeAt cs (first_of (nexts ys) None)
  first_at xs [] cs cut = tt
  first_at xs (y ∷ ys) cs cut = here_at xs y ys cs cut

  pub bucket_next_at : (m k : ℕ) (xs ys cs : List (StoredNode T)) → cs ≡ xs ++ ys → MayBeAt cs (first_of (bucket_prevs m k ys) None)
  bucket_next_at m k xs ys cs cut = elim (first_in m k ys) [
    | inl none ↦ subst (λ l. MayBeAt cs (first_of l None)) (sym none) tt
    | inr on ↦ subst (λ l. MayBeAt cs (first_of (bucket_prevs m k l) None)) (sym on.3) (subst (λ l. MayBeAt cs (first_of l None)) (sym (bucket_prevs-first m k on.0 on.1 on.2 on.4 on.5))
        (here_at (xs ++ on.0) on.1 on.2 cs (cut ∙ ap (λ l. xs ++ l) on.3 ∙ sym (append_assoc xs on.0 (on.1 ∷ on.2)))))
  ]

  pub head_at : (cs : List (StoredNode T)) (p : NodePtr) → first_of (nexts cs) None ≡ Some p → (c : StoredNode T) × (rest : List (StoredNode T)) × (cs ≡ c ∷ rest) × (ptr_of c ≡ p)
  head_at [] p e = cc
  head_at (c ∷ cs) p e = (c, cs, refl, cc)

  pub no_head : (cs : List (StoredNode T)) → first_of (nexts cs) None ≡ None → cs ≡ []
  no_head [] e = refl
  no_head (c ∷ cs) e = cc
