-- A chain from which one node is taken.
use Rattle.std.proofs.Common.{◌≡◌, ℕ, ◌<◌, ◌%◌, ◌==◌, Bool, true, false, List, [], ◌∷◌, ◌++◌, Option, Some, None, refl, sym, ap, ◌∙◌, subst, append_assoc, length}
use Rattle.std.proofs.lemmas.Bool.{eq-eqb, eqb-true}
use Rattle.std.proofs.lemmas.Nat.{mod_below}
use Rattle.mp_tickets.specs.Inside.Cell.{IsAt}
use Rattle.mp_tickets.specs.declared.node_store.NodePtr.{NodePtr}
use Rattle.mp_tickets.specs.declared.node_store.NodeStore.{NodeStore}
use Rattle.mp_tickets.specs.declared.node.Link.{Link}
use Rattle.mp_tickets.specs.declared.chain.Chain.{Chain}
use Rattle.mp_tickets.specs.Inside.Links.{first_of, last_of, Forward, Back, StoredNode, ptr_of, pairs, nexts, prevs, bucket_prevs}
use Rattle.mp_tickets.specs.Inside.Chain.{bucket_back_at, bucket_count, IsChained}
use Rattle.mp_tickets.specs.Inside.Relinks.{MayBeAt, SetsNext, SetsPrev, SetsBucketPrev}
use Rattle.mp_tickets.proofs.Links.{first_of-append, last_of-append, Forward-left, Forward-right, Forward-both, Back-left, Back-right, Back-both, nexts-append, prevs-append, pairs-append, bucket_prevs-append, bucket_prevs-in, bucket_prevs-out, one_bucket, NextSet, next_set, PrevSet, prev_set, BucketPrevSet, bucket_prev_set, last_at, first_at, bucket_next_at}

module _ {T : Type 0} (o : Chain T) (chained : IsChained o) (xs : List (StoredNode T)) (c : StoredNode T) (ys : List (StoredNode T)) (cut : o.nodes.cells ≡ xs ++ c ∷ ys) where
  abbrev pub m : ℕ
  m = bucket_count o

  abbrev pub k : ℕ
  k = c.value.ticket % m

  abbrev pub here : Option NodePtr
  here = Some (ptr_of c)

  within : k < m
  within = mod_below c.value.ticket m chained.some

  mine : (c.value.ticket % m == k) ≡ true
  mine = eq-eqb k k refl

  forward : Forward (nexts xs ++ nexts (c ∷ ys)) None
  forward = subst (λ l. Forward l None) (ap nexts cut ∙ nexts-append xs (c ∷ ys)) chained.forward

  backward : Back None (prevs xs ++ prevs (c ∷ ys))
  backward = subst (Back None) (ap prevs cut ∙ prevs-append xs (c ∷ ys)) chained.backward

  bucketed : (j : ℕ) → j < m → Back None (bucket_prevs m j xs ++ bucket_prevs m j (c ∷ ys))
  bucketed j h = subst (Back None) (ap (bucket_prevs m j) cut ∙ bucket_prevs-append m j xs (c ∷ ys)) (chained.bucketed j h)

  in_bucket : Back (last_of None (bucket_prevs m k xs)) ((ptr_of c, c.value.bucket_prev) ∷ bucket_prevs m k ys)
  in_bucket = subst (Back (last_of None (bucket_prevs m k xs))) (bucket_prevs-in m k c ys mine) (Back-right None (bucket_prevs m k xs) (bucket_prevs m k (c ∷ ys)) (bucketed k within))

  in_others : (j : ℕ) → j < m → (j == k) ≡ false → Back (last_of None (bucket_prevs m j xs)) (bucket_prevs m j ys)
  in_others j h other = subst (Back (last_of None (bucket_prevs m j xs))) (bucket_prevs-out m j c ys (one_bucket k j k mine other)) (Back-right None (bucket_prevs m j xs) (bucket_prevs m j (c ∷ ys)) (bucketed j h))

  pub prev_is : c.value.prev ≡ last_of None (prevs xs)
  prev_is = (Back-right None (prevs xs) (prevs (c ∷ ys)) backward).0

  pub next_is : c.value.next ≡ first_of (nexts ys) None
  next_is = (Forward-right (nexts xs) (nexts (c ∷ ys)) None forward).0

  pub bucket_prev_is : c.value.bucket_prev ≡ last_of None (bucket_prevs m k xs)
  bucket_prev_is = in_bucket.0

  bucket_back_is : bucket_back_at o.bucket_backs.items k ≡ last_of here (bucket_prevs m k ys)
  bucket_back_is = chained.bucket_backs k within ∙ ap (λ cs. last_of None (bucket_prevs m k cs)) cut ∙ ap (last_of None) (bucket_prevs-append m k xs (c ∷ ys)) ∙ last_of-append None (bucket_prevs m k xs) (bucket_prevs m k (c ∷ ys)) ∙ ap (last_of (last_of None (bucket_prevs m k xs))) (bucket_prevs-in m k c ys mine)

  bucket_back_other : (j : ℕ) → j < m → (j == k) ≡ false → bucket_back_at o.bucket_backs.items j ≡ last_of (last_of None (bucket_prevs m j xs)) (bucket_prevs m j ys)
  bucket_back_other j h other = chained.bucket_backs j h ∙ ap (λ cs. last_of None (bucket_prevs m j cs)) cut ∙ ap (last_of None) (bucket_prevs-append m j xs (c ∷ ys)) ∙ last_of-append None (bucket_prevs m j xs) (bucket_prevs m j (c ∷ ys)) ∙ ap (last_of (last_of None (bucket_prevs m j xs))) (bucket_prevs-out m j c ys (one_bucket k j k mine other))

  pub prev_at : MayBeAt o.nodes.cells c.value.prev
  prev_at = subst (MayBeAt o.nodes.cells) (sym prev_is) (last_at xs (c ∷ ys) o.nodes.cells cut)

  module _ (s1 : Chain T) (sets1 : SetsNext o s1 c.value.prev c.value.next) where
    pub first : NextSet xs (c ∷ ys) s1.nodes.cells s1.front c.value.next
    first =
        next_set c.value.prev c.value.next here o.front s1.front xs (c ∷ ys) o.nodes.cells s1.nodes.cells sets1.here cut prev_is
        (Forward-left (nexts xs) (nexts (c ∷ ys)) None forward) (chained.front ∙ ap (λ cs. first_of (nexts cs) None) cut ∙ ap (λ l. first_of l None) (nexts-append xs (c ∷ ys)) ∙ first_of-append (nexts xs) (nexts (c ∷ ys)) None)

    abbrev pub ws : List (StoredNode T)
    ws = first.xs1

    cut1 : s1.nodes.cells ≡ (ws ++ c ∷ []) ++ ys
    cut1 = first.cut ∙ sym (append_assoc ws (c ∷ []) ys)

    pub next_at : MayBeAt s1.nodes.cells c.value.next
    next_at = subst (MayBeAt s1.nodes.cells) (sym next_is) (first_at (ws ++ c ∷ []) ys s1.nodes.cells cut1)

    module _ (s2 : Chain T) (sets2 : SetsPrev s1 s2 c.value.next c.value.prev) where
      pub second : PrevSet (ws ++ c ∷ []) ys s2.nodes.cells s2.back c.value.prev
      second =
          prev_set c.value.next c.value.prev here s1.back s2.back (ws ++ c ∷ []) ys s1.nodes.cells s2.nodes.cells sets2.here cut1 next_is
          (Back-right None (prevs xs) (prevs (c ∷ ys)) backward).1 (sets1.back ∙ chained.back ∙ ap (λ cs. last_of None (prevs cs)) cut ∙ ap (last_of None) (prevs-append xs (c ∷ ys)) ∙ last_of-append None (prevs xs) (prevs (c ∷ ys)))

      abbrev pub zs : List (StoredNode T)
      zs = second.ys1

      module _ (bucket_next : Option NodePtr) (bucket_next_is : bucket_next ≡ first_of (bucket_prevs m k ys) None) where
        bucket_next_is2 : bucket_next ≡ first_of (bucket_prevs m k zs) None
        bucket_next_is2 = bucket_next_is ∙ sym (ap (λ l. first_of l None) (second.same_bucket_prevs m k))

        pub bucket_next_there : MayBeAt s2.nodes.cells bucket_next
        bucket_next_there = subst (MayBeAt s2.nodes.cells) (sym bucket_next_is2) (bucket_next_at m k (ws ++ c ∷ []) zs s2.nodes.cells second.cut)

        same_bucket_backs : s2.bucket_backs ≡ o.bucket_backs
        same_bucket_backs = sets2.bucket_backs ∙ sets1.bucket_backs

        module _ (s3 : Chain T) (sets3 : SetsBucketPrev s2 s3 k bucket_next c.value.bucket_prev) where
          pub third : BucketPrevSet (ws ++ c ∷ []) zs s3.nodes.cells m k (bucket_back_at s3.bucket_backs.items k) c.value.bucket_prev
          third =
              bucket_prev_set m k bucket_next c.value.bucket_prev here (bucket_back_at s2.bucket_backs.items k) (bucket_back_at s3.bucket_backs.items k) (ws ++ c ∷ []) zs s2.nodes.cells s3.nodes.cells sets3.here second.cut bucket_next_is2
              (subst (Back here) (sym (second.same_bucket_prevs m k)) in_bucket.1) (ap (λ n. bucket_back_at n.items k) same_bucket_backs ∙ bucket_back_is ∙ sym (ap (last_of here) (second.same_bucket_prevs m k)))

          abbrev pub vs : List (StoredNode T)
          vs = third.ys1

          pub cut3 : s3.nodes.cells ≡ ws ++ c ∷ vs
          cut3 = third.cut ∙ append_assoc ws (c ∷ []) vs

          nexts_same : nexts vs ≡ nexts ys
          nexts_same = third.same_nexts ∙ second.same_nexts

          pub still_at : IsAt s3.nodes.cells c.at
          still_at = (ws, c, vs, cut3, refl)

          bucket_prevs_other : (j : ℕ) → (j == k) ≡ false → bucket_prevs m j vs ≡ bucket_prevs m j ys
          bucket_prevs_other j other = third.same_bucket_prevs j other ∙ second.same_bucket_prevs m j

          module _ (nodes : NodeStore (Link T)) (left : nodes.cells ≡ ws ++ vs) where
            abbrev pub end : Chain T
            end = record { nodes = nodes; front = s3.front; back = s3.back; bucket_backs = s3.bucket_backs }

            pub pairs_left : pairs nodes.cells ≡ pairs xs ++ pairs ys
            pairs_left = ap pairs left ∙ pairs-append ws vs ∙ (λ i. first.same_pairs i ++ (third.same_pairs ∙ second.same_pairs) i)

            bucket_left : (j : ℕ) → Back None (bucket_prevs m j xs) → Back (last_of None (bucket_prevs m j xs)) (bucket_prevs m j vs) → Back None (bucket_prevs m j nodes.cells)
            bucket_left j b d = subst (Back None) (sym (ap (bucket_prevs m j) left ∙ bucket_prevs-append m j ws vs ∙ ap (λ l. l ++ bucket_prevs m j vs) (first.same_bucket_prevs m j))) (Back-both None (bucket_prevs m j xs) (bucket_prevs m j vs) b d)

            bucket_back_left : (j : ℕ) (n : Option NodePtr) → n ≡ last_of (last_of None (bucket_prevs m j xs)) (bucket_prevs m j vs) → n ≡ last_of None (bucket_prevs m j nodes.cells)
            bucket_back_left j n e = e ∙ sym (ap (λ cs. last_of None (bucket_prevs m j cs)) left ∙ ap (last_of None) (bucket_prevs-append m j ws vs ∙ ap (λ l. l ++ bucket_prevs m j vs) (first.same_bucket_prevs m j)) ∙ last_of-append None (bucket_prevs m j xs) (bucket_prevs m j vs))

            left_in : (j : ℕ) → j < m → Back None (bucket_prevs m j nodes.cells)
            left_in j h = (elim (j == k) as (λ (t : Bool). (j == k) ≡ t → Back None (bucket_prevs m j nodes.cells)) [
              | true ↦ λ e. subst (λ i. Back None (bucket_prevs m i nodes.cells)) (sym (eqb-true j k e)) (bucket_left k (Back-left None (bucket_prevs m k xs) (bucket_prevs m k (c ∷ ys)) (bucketed k within)) (subst (λ p. Back p (bucket_prevs m k vs)) bucket_prev_is third.bucketed))
              | false ↦ λ e. bucket_left j (Back-left None (bucket_prevs m j xs) (bucket_prevs m j (c ∷ ys)) (bucketed j h)) (subst (Back (last_of None (bucket_prevs m j xs))) (sym (bucket_prevs_other j e)) (in_others j h e))
            ]) refl

            bucket_back_in : (j : ℕ) → j < m → bucket_back_at s3.bucket_backs.items j ≡ last_of None (bucket_prevs m j nodes.cells)
            bucket_back_in j h = (elim (j == k) as (λ (t : Bool). (j == k) ≡ t → bucket_back_at s3.bucket_backs.items j ≡ last_of None (bucket_prevs m j nodes.cells)) [
              | true ↦ λ e. subst (λ i. bucket_back_at s3.bucket_backs.items i ≡ last_of None (bucket_prevs m i nodes.cells)) (sym (eqb-true j k e)) (bucket_back_left k (bucket_back_at s3.bucket_backs.items k) (third.bucket_back_is ∙ ap (λ p. last_of p (bucket_prevs m k vs)) bucket_prev_is))
              | false ↦ λ e. bucket_back_left j (bucket_back_at s3.bucket_backs.items j) (sets3.others j e ∙ ap (λ n. bucket_back_at n.items j) same_bucket_backs ∙ bucket_back_other j h e ∙ sym (ap (last_of (last_of None (bucket_prevs m j xs))) (bucket_prevs_other j e)))
            ]) refl

            -- as many buckets as before
            counted : bucket_count end ≡ m
            counted = sets3.whole ∙ ap (λ n. length n.items) same_bucket_backs

            pub chained_left : IsChained end
            chained_left = record {
              forward = subst (λ l. Forward l None) (sym (ap nexts left ∙ nexts-append ws vs))
                  (Forward-both (nexts ws) (nexts vs) None (subst (Forward (nexts ws)) (next_is ∙ sym (ap (λ l. first_of l None) nexts_same)) first.forward) (subst (λ l. Forward l None) (sym nexts_same) (Forward-right (nexts xs) (nexts (c ∷ ys)) None forward).1));
              front = sets3.front ∙ sets2.front ∙ first.front_is ∙ ap (first_of (nexts ws)) (next_is ∙ sym (ap (λ l. first_of l None) nexts_same)) ∙ sym (ap (λ cs. first_of (nexts cs) None) left ∙ ap (λ l. first_of l None) (nexts-append ws vs) ∙ first_of-append (nexts ws) (nexts vs) None);
              backward = subst (Back None) (sym (ap prevs left ∙ prevs-append ws vs ∙ (λ i. first.same_prevs i ++ third.same_prevs i)))
                  (Back-both None (prevs xs) (prevs zs) (Back-left None (prevs xs) (prevs (c ∷ ys)) backward) (subst (λ p. Back p (prevs zs)) prev_is second.backward));
              back = sets3.back ∙ second.back_is ∙ ap (λ p. last_of p (prevs zs)) prev_is ∙ sym (ap (λ cs. last_of None (prevs cs)) left ∙ ap (last_of None) (prevs-append ws vs ∙ (λ i. first.same_prevs i ++ third.same_prevs i)) ∙ last_of-append None (prevs xs) (prevs zs));
              bucketed = subst (λ n. (j : ℕ) → j < n → Back None (bucket_prevs n j nodes.cells)) (sym counted) left_in;
              bucket_backs = subst (λ n. (j : ℕ) → j < n → bucket_back_at s3.bucket_backs.items j ≡ last_of None (bucket_prevs n j nodes.cells)) (sym counted) bucket_back_in;
              some = subst (λ n. 0 < n) (sym counted) chained.some;
            }
