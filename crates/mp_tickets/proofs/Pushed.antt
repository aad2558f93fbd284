-- A chain with one more node at its end.
use Rattle.std.proofs.Common.{◌≡◌, ℕ, ◌<◌, ◌%◌, ◌==◌, Bool, true, false, List, [], ◌∷◌, ◌++◌, Option, Some, None, refl, sym, ap, ◌∙◌, subst, append-nil, length, slice_index_or}
use Rattle.std.proofs.lemmas.List.{get_or_read_under}
use Rattle.std.proofs.lemmas.Bool.{eqb-true, eqb-false, ne_eqb}
use Rattle.std.proofs.lemmas.Nat.{mod_below}
use denote.RawPtr.{Ptr}
use Rattle.mp_tickets.specs.Inside.Cell.{cell}
use Rattle.mp_tickets.specs.declared.node_store.NodePtr.{NodePtr}
use Rattle.mp_tickets.specs.declared.node.Link.{Link}
use Rattle.mp_tickets.specs.declared.node_store.NodeStore.{NodeStore}
use Rattle.mp_tickets.specs.declared.chain.Chain.{Chain}
use Rattle.mp_tickets.specs.Inside.Links.{first_of, last_of, Forward, Back, StoredNode, ptr_of, pairs, nexts, prevs, bucket_prevs}
use Rattle.mp_tickets.specs.Inside.Chain.{bucket_back_at, bucket_count, IsChained}
use Rattle.mp_tickets.specs.Inside.Relinks.{MayBeAt, SetsNext, SetsPrev, SetsBucketPrev, with_prev, with_bucket_prev}
use Rattle.mp_tickets.proofs.Links.{first_of-append, last_of-append, Forward-both, Back-both, nexts-append, prevs-append, pairs-append, bucket_prevs-append, bucket_prevs-in, bucket_prevs-out, set_none, NextSet, next_set, last_at}

flips : (j t : ℕ) → (t == j) ≡ false → (j == t) ≡ false
flips j t e = ne_eqb j t (λ same. eqb-false t j e (sym same))

-- a new node at the end of the chain, before any link leads to it
pub record IsNew {T : Type 0} (o : Chain T) (k : ℕ) (nodes : NodeStore (Link T)) (c : StoredNode T) : Type 0 where
  pub cut : nodes.cells ≡ o.nodes.cells ++ c ∷ []
  pub bucket : c.value.ticket % bucket_count o ≡ k
  pub prev : c.value.prev ≡ o.back
  pub next : c.value.next ≡ None
  pub bucket_prev : c.value.bucket_prev ≡ bucket_back_at o.bucket_backs.items k

-- this holds once its four fields are written
pub is_new : {T : Type 0} (o : Chain T) (ticket k : ℕ) (nodes : NodeStore (Link T)) (lies at : Ptr) (l l1 l2 l3 l4 v : Link T) (bucket_back : Option NodePtr) → IsChained o → k ≡ ticket % bucket_count o
    → l1 ≡ l → l2 ≡ record l1 { ticket = ticket } → l3 ≡ record l2 { prev = o.back } → l4 ≡ record l3 { next = None } → v ≡ record l4 { bucket_prev = bucket_back }
    → bucket_back ≡ slice_index_or o.bucket_backs.items k bucket_back → nodes.cells ≡ o.nodes.cells ++ cell lies v ∷ [] → at ≡ lies → IsNew o k nodes (cell at v) × (v.ticket ≡ ticket) × (v.item ≡ l.item)
is_new {T} o ticket k nodes lies at l l1 l2 l3 l4 v bucket_back chained bucket e1 e2 e3 e4 e5 read cells ptr =
    let ticket_is : v.ticket ≡ ticket = ap (λ (n : Link T). n.ticket) e5 ∙ ap (λ (n : Link T). n.ticket) e4 ∙ ap (λ (n : Link T). n.ticket) e3 ∙ ap (λ (n : Link T). n.ticket) e2 in
    let m = bucket_count o in let within : k < m = subst (λ n. n < m) (sym bucket) (mod_below ticket m chained.some) in (
      record {
        cut = cells ∙ ap (λ p. o.nodes.cells ++ cell p v ∷ []) (sym ptr);
        bucket = ap (λ n. n % m) ticket_is ∙ sym bucket;
        prev = ap (λ (n : Link T). n.prev) e5 ∙ ap (λ (n : Link T). n.prev) e4 ∙ ap (λ (n : Link T). n.prev) e3;
        next = ap (λ (n : Link T). n.next) e5 ∙ ap (λ (n : Link T). n.next) e4;
        bucket_prev = ap (λ (n : Link T). n.bucket_prev) e5 ∙ get_or_read_under o.bucket_backs.items k m bucket_back None read within refl;
      },
      ticket_is,
      ap (λ (n : Link T). n.item) e5 ∙ ap (λ (n : Link T). n.item) e4 ∙ ap (λ (n : Link T). n.item) e3 ∙ ap (λ (n : Link T). n.item) e2 ∙ ap (λ (n : Link T). n.item) e1,
    )

module _ {T : Type 0} (o : Chain T) (chained : IsChained o) (k : ℕ) (nodes : NodeStore (Link T)) (c : StoredNode T) (new : IsNew o k nodes c) where
  abbrev pub m : ℕ
  m = bucket_count o

  abbrev pub here : Option NodePtr
  here = Some (ptr_of c)

  abbrev pub start : Chain T
  start = record { nodes = nodes; front = o.front; back = o.back; bucket_backs = o.bucket_backs }

  pub back_at : MayBeAt nodes.cells o.back
  back_at = subst (MayBeAt nodes.cells) (sym chained.back) (last_at o.nodes.cells (c ∷ []) nodes.cells new.cut)

  module _ (s1 s2 s3 : Chain T) (sets1 : SetsNext start s1 o.back here) (sets2 : SetsPrev s1 s2 None here) (sets3 : SetsBucketPrev s2 s3 k None here) where
    pub first : NextSet o.nodes.cells (c ∷ []) s1.nodes.cells s1.front here
    first = next_set o.back here None o.front s1.front o.nodes.cells (c ∷ []) nodes.cells s1.nodes.cells sets1.here new.cut chained.back chained.forward chained.front

    second : (s2.back ≡ here) × (s2.nodes.cells ≡ s1.nodes.cells)
    second = set_none with_prev None here s1.back s2.back s1.nodes.cells s2.nodes.cells sets2.here refl

    third : (bucket_back_at s3.bucket_backs.items k ≡ here) × (s3.nodes.cells ≡ s2.nodes.cells)
    third = set_none with_bucket_prev None here (bucket_back_at s2.bucket_backs.items k) (bucket_back_at s3.bucket_backs.items k) s2.nodes.cells s3.nodes.cells sets3.here refl

    abbrev ws : List (StoredNode T)
    ws = first.xs1

    cut : s3.nodes.cells ≡ ws ++ c ∷ []
    cut = third.1 ∙ second.1 ∙ first.cut

    same_bucket_backs : s2.bucket_backs ≡ o.bucket_backs
    same_bucket_backs = sets2.bucket_backs ∙ sets1.bucket_backs

    pub pairs_pushed : pairs s3.nodes.cells ≡ pairs o.nodes.cells ++ (c.value.ticket, c.value.item) ∷ []
    pairs_pushed = ap pairs cut ∙ pairs-append ws (c ∷ []) ∙ ap (λ l. l ++ (c.value.ticket, c.value.item) ∷ []) first.same_pairs

    bucket_prevs_cut : (j : ℕ) → bucket_prevs m j s3.nodes.cells ≡ bucket_prevs m j o.nodes.cells ++ bucket_prevs m j (c ∷ [])
    bucket_prevs_cut j = ap (bucket_prevs m j) cut ∙ bucket_prevs-append m j ws (c ∷ []) ∙ ap (λ l. l ++ bucket_prevs m j (c ∷ [])) (first.same_bucket_prevs m j)

    abbrev t : ℕ
    t = c.value.ticket % m

    buckets_in : (j : ℕ) → j < m → Back None (bucket_prevs m j s3.nodes.cells) × (bucket_back_at s3.bucket_backs.items j ≡ last_of None (bucket_prevs m j s3.nodes.cells))
    buckets_in j h = (elim (t == j) as (λ (b : Bool). (t == j) ≡ b → Back None (bucket_prevs m j s3.nodes.cells) × (bucket_back_at s3.bucket_backs.items j ≡ last_of None (bucket_prevs m j s3.nodes.cells))) [
      | true ↦ λ e.
          let j_is : j ≡ k = sym (eqb-true t j e) ∙ new.bucket in
          let whole = bucket_prevs_cut j ∙ ap (λ l. bucket_prevs m j o.nodes.cells ++ l) (bucket_prevs-in m j c [] e) in (
            subst (Back None) (sym whole) (Back-both None (bucket_prevs m j o.nodes.cells) ((ptr_of c, c.value.bucket_prev) ∷ []) (chained.bucketed j h) (new.bucket_prev ∙ ap (bucket_back_at o.bucket_backs.items) (sym j_is) ∙ chained.bucket_backs j h, tt)),
            ap (bucket_back_at s3.bucket_backs.items) j_is ∙ third.0 ∙ sym (ap (last_of None) whole ∙ last_of-append None (bucket_prevs m j o.nodes.cells) ((ptr_of c, c.value.bucket_prev) ∷ [])),
          )
      | false ↦ λ e.
          let whole = bucket_prevs_cut j ∙ ap (λ l. bucket_prevs m j o.nodes.cells ++ l) (bucket_prevs-out m j c [] e) ∙ append-nil (bucket_prevs m j o.nodes.cells) in
          let other : (j == k) ≡ false = ap (λ n. j == n) (sym new.bucket) ∙ flips j t e in
          (subst (Back None) (sym whole) (chained.bucketed j h), sets3.others j other ∙ ap (λ n. bucket_back_at n.items j) same_bucket_backs ∙ chained.bucket_backs j h ∙ sym (ap (last_of None) whole))
    ]) refl

    -- as many buckets as before
    counted : bucket_count s3 ≡ m
    counted = sets3.whole ∙ ap (λ n. length n.items) same_bucket_backs

    pub chained_pushed : IsChained s3
    chained_pushed = record {
      forward = subst (λ l. Forward l None) (sym (ap nexts cut ∙ nexts-append ws (c ∷ []))) (Forward-both (nexts ws) (nexts (c ∷ [])) None first.forward (new.next, tt));
      front = sets3.front ∙ sets2.front ∙ first.front_is ∙ sym (ap (λ cs. first_of (nexts cs) None) cut ∙ ap (λ l. first_of l None) (nexts-append ws (c ∷ [])) ∙ first_of-append (nexts ws) (nexts (c ∷ [])) None);
      backward = subst (Back None) (sym (ap prevs cut ∙ prevs-append ws (c ∷ []) ∙ ap (λ l. l ++ prevs (c ∷ [])) first.same_prevs)) (Back-both None (prevs o.nodes.cells) (prevs (c ∷ [])) chained.backward (new.prev ∙ chained.back, tt));
      back = sets3.back ∙ second.0 ∙ sym (ap (λ cs. last_of None (prevs cs)) cut ∙ ap (last_of None) (prevs-append ws (c ∷ [])) ∙ last_of-append None (prevs ws) (prevs (c ∷ [])));
      bucketed = subst (λ n. (j : ℕ) → j < n → Back None (bucket_prevs n j s3.nodes.cells)) (sym counted) (λ j h. (buckets_in j h).0);
      bucket_backs = subst (λ n. (j : ℕ) → j < n → bucket_back_at s3.bucket_backs.items j ≡ last_of None (bucket_prevs n j s3.nodes.cells)) (sym counted) (λ j h. (buckets_in j h).1);
      some = subst (λ n. 0 < n) (sym counted) chained.some;
    }
