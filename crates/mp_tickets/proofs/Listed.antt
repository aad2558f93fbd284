-- The effect of a list's calls on its tickets and items.
use Rattle.std.proofs.Common.{◌≡◌, ℕ, zero, suc, ◌+◌, ◌-◌, ◌<◌, ◌≤◌, Bool, false, cond, List, [], ◌∷◌, ◌++◌, length, slice_get, Option, Some, None, inl, inr, refl, sym, ap, ◌∙◌, subst, append_assoc, length-append, arith}
use Rattle.std.specs.List.{All, AllByRecursion}
use Rattle.std.proofs.lemmas.List.{length-map}
use Rattle.std.proofs.lemmas.Bool.{ne_eqb}
use Rattle.lru.specs.Linked.{IsApart, same_ptr}
use Rattle.lru.proofs.Apart.{same_ptr_refl, same_ptr_symm}
use Rattle.lru.proofs.Splits.{distinct_differs, all_left}
use Rattle.lru.proofs.Pairs.{last_of_push}
use Rattle.mp_tickets.specs.Inside.Cell.{ptrs, IsAt, AtCell}
use Rattle.mp_tickets.specs.Tickets.{IsRising, item_at, without}
use Rattle.mp_tickets.specs.declared.node_store.NodePtr.{NodePtr}
use Rattle.mp_tickets.specs.declared.node.Link.{Link}
use Rattle.mp_tickets.specs.declared.chain.Found.{Found}
use Rattle.mp_tickets.specs.Inside.Links.{StoredNode, ptr_of, pairs, nexts, prevs, first_of, last_of, Forward}
use Rattle.mp_tickets.specs.Inside.Found.{HasNone, IsFound}
use Rattle.mp_tickets.specs.Inside.Iter.{nodes_from, LeadsOn}
use Rattle.mp_tickets.proofs.Apart.{IsFresh}
use Rattle.mp_tickets.proofs.Links.{pairs-append, last_prev, ends, head_at}
use Rattle.mp_tickets.proofs.Seeks.{some_none, same_some}
use Rattle.mp_tickets.proofs.Rising.{HasNot, all_up_to, rising_before, rising_after, rising_without, rising_push, few, not_before, not_after, item_at-none, item_at-cut, without-none, without-cut}

pub all_listed : {X : Type 0} (P : X → Type 0) (xs : List X) → All P xs → AllByRecursion P xs
all_listed P [] h = tt
all_listed P (x ∷ xs) h = let more : length (x ∷ xs) ≡ suc (length xs) = refl in (h 0 x (omega arith), all_listed P xs (λ k d lt. h (suc k) d (omega arith)))

pub listed_all : {X : Type 0} (P : X → Type 0) (xs : List X) → AllByRecursion P xs → All P xs
listed_all {X} P [] a k d h = let none : length {A = X} [] ≡ 0 = refl in absurd (omega arith)
listed_all P (x ∷ xs) a zero d h = a.0
listed_all P (x ∷ xs) a (suc k) d h = let more : length (x ∷ xs) ≡ suc (length xs) = refl in listed_all P xs a.1 k d (omega arith)

module _ {T : Type 0} where
  pub length-pairs : (cs : List (StoredNode T)) → length (pairs cs) ≡ length cs
  length-pairs cs = length-map cs (λ (c : StoredNode T). (c.value.ticket, c.value.item))

  none_pairs : (ticket : ℕ) (cs : List (StoredNode T)) → HasNone ticket cs → HasNot ticket (pairs cs)
  none_pairs ticket [] h = tt
  none_pairs ticket (c ∷ cs) h = (ne_eqb c.value.ticket ticket h.0, none_pairs ticket cs h.1)

  pub no_item : (ticket : ℕ) (cs : List (StoredNode T)) → HasNone ticket cs → (item_at (pairs cs) ticket ≡ None) × (without (pairs cs) ticket ≡ pairs cs)
  no_item ticket cs h = let none = none_pairs ticket cs h in (item_at-none ticket (pairs cs) none, without-none ticket (pairs cs) none)

  module _ (cs : List (StoredNode T)) (rising : IsRising (pairs cs)) (m ticket : ℕ) (f : Found) (found : IsFound m ticket cs f) where
    cut : pairs cs ≡ pairs found.0 ++ (found.1.value.ticket, found.1.value.item) ∷ pairs found.2
    cut = ap pairs found.3 ∙ pairs-append found.0 (found.1 ∷ found.2)

    rises : IsRising (pairs found.0 ++ (found.1.value.ticket, found.1.value.item) ∷ pairs found.2)
    rises = subst IsRising cut rising

    before : HasNot found.1.value.ticket (pairs found.0)
    before = not_before found.1.value.ticket (pairs found.0) (rising_before 0 (pairs found.0) (found.1.value.ticket, found.1.value.item) (pairs found.2) rises)

    behind : HasNot found.1.value.ticket (pairs found.2)
    behind = not_after found.1.value.ticket (pairs found.2) (rising_after 0 (pairs found.0) (found.1.value.ticket, found.1.value.item) (pairs found.2) rises)

    item_is : item_at (pairs cs) ticket ≡ Some found.1.value.item
    item_is = ap (item_at (pairs cs)) (sym found.5) ∙ ap (λ l. item_at l found.1.value.ticket) cut ∙ item_at-cut (pairs found.0) (found.1.value.ticket, found.1.value.item) (pairs found.2) before

    pub found_item : (v : Link T) → AtCell cs f.ptr.at (λ _ c _. v ≡ c.value) → Some v.item ≡ item_at (pairs cs) ticket
    found_item v told = ap (λ (l : Link T). Some l.item) (told found.0 found.1 found.2 found.3 found.4) ∙ sym item_is

    module _ (new : List (StoredNode T)) (v : Link T) (taken : AtCell cs f.ptr.at (λ xs c ys. (pairs new ≡ pairs xs ++ pairs ys) × (v ≡ c.value))) where
      left : pairs new ≡ pairs found.0 ++ pairs found.2
      left = (taken found.0 found.1 found.2 found.3 found.4).0

      pub taken_item : Some v.item ≡ item_at (pairs cs) ticket
      taken_item = ap (λ (l : Link T). Some l.item) (taken found.0 found.1 found.2 found.3 found.4).1 ∙ sym item_is

      pub taken_list : pairs new ≡ without (pairs cs) ticket
      taken_list = left ∙ sym (ap (without (pairs cs)) (sym found.5) ∙ ap (λ l. without l found.1.value.ticket) cut ∙ without-cut (pairs found.0) (found.1.value.ticket, found.1.value.item) (pairs found.2) before behind)

      pub taken_rising : IsRising (pairs new)
      taken_rising = subst IsRising (sym left) (rising_without 0 (pairs found.0) (found.1.value.ticket, found.1.value.item) (pairs found.2) rises)

      pub taken_one : length cs ≡ length new + 1
      taken_one =
          let old = sym (length-pairs cs) ∙ ap length cut ∙ length-append (pairs found.0) ((found.1.value.ticket, found.1.value.item) ∷ pairs found.2) in
          let now = sym (length-pairs new) ∙ ap length left ∙ length-append (pairs found.0) (pairs found.2) in
          let more : length ((found.1.value.ticket, found.1.value.item) ∷ pairs found.2) ≡ suc (length (pairs found.2)) = refl in
          omega arith

  module _ (cs : List (StoredNode T)) (rising : IsRising (pairs cs)) (ticket : ℕ) (above : 0 < ticket) (greater : All (λ (e : ℕ × T). e.0 < ticket) (pairs cs)) where
    pub fewer : length cs < ticket
    fewer = let short = few 0 (pairs cs) ticket rising (all_listed (λ (e : ℕ × T). e.0 < ticket) (pairs cs) greater) above in let same = length-pairs cs in omega arith

    module _ (new : List (StoredNode T)) (item : T) (pushed : pairs new ≡ pairs cs ++ (ticket, item) ∷ []) where
      pub pushed_rising : IsRising (pairs new)
      pushed_rising = subst IsRising (sym pushed) (rising_push 0 (pairs cs) (ticket, item) rising (all_listed (λ (e : ℕ × T). e.0 < ticket) (pairs cs) greater) above)

      pub pushed_one : length new ≡ length cs + 1
      pushed_one = sym (length-pairs new) ∙ ap length pushed ∙ length-append (pairs cs) ((ticket, item) ∷ []) ∙ ap (λ n. n + 1) (length-pairs cs)

  pub first_ptr : (cs : List (StoredNode T)) (p : NodePtr) → Some p ≡ first_of (nexts cs) None → IsAt cs p.at
  first_ptr cs p e = let h = head_at cs p (sym e) in ([], h.0, h.1, h.2, ap (λ (q : NodePtr). q.at) h.3)

  pub first_pair : (cs : List (StoredNode T)) (p : NodePtr) (v : Link T) → Some p ≡ first_of (nexts cs) None → AtCell cs p.at (λ _ c _. v ≡ c.value) → Some (v.ticket, v.item) ≡ slice_get (pairs cs) 0
  first_pair cs p v e told =
      let h = head_at cs p (sym e) in
      ap (λ (l : Link T). Some (l.ticket, l.item)) (told [] h.0 h.1 h.2 (ap (λ (q : NodePtr). q.at) h.3)) ∙ sym (ap (λ l. slice_get (pairs l) 0) h.2)

  tail_at : (cs : List (StoredNode T)) (p : NodePtr) → Some p ≡ last_of None (prevs cs) → (us : List (StoredNode T)) × (c : StoredNode T) × (cs ≡ us ++ c ∷ []) × (c.at ≡ p.at)
  tail_at cs p e = elim (ends cs) [
    | inl none ↦ absurd (some_none p (e ∙ ap (λ l. last_of None (prevs l)) none))
    | inr on ↦ (on.0, on.1, on.2, sym (ap (λ (q : NodePtr). q.at) (same_some p (ptr_of on.1) (e ∙ ap (λ l. last_of None (prevs l)) on.2 ∙ last_prev on.0 on.1))))
  ]

  pub last_ptr : (cs : List (StoredNode T)) (p : NodePtr) → Some p ≡ last_of None (prevs cs) → IsAt cs p.at
  last_ptr cs p e = let h = tail_at cs p e in (h.0, h.1, [], h.2, h.3)

  pub last_pair : (cs : List (StoredNode T)) (p : NodePtr) (v : Link T) → Some p ≡ last_of None (prevs cs) → AtCell cs p.at (λ _ c _. v ≡ c.value) → Some (v.ticket, v.item) ≡ slice_get (pairs cs) (length (pairs cs) - 1)
  last_pair cs p v e told =
      let h = tail_at cs p e in
      ap (λ (l : Link T). Some (l.ticket, l.item)) (told h.0 h.1 [] h.2 h.3)
      ∙ sym (ap (λ l. slice_get l (length l - 1)) (ap pairs h.2 ∙ pairs-append h.0 (h.1 ∷ [])) ∙ (last_of_push (pairs h.0) (h.1.value.ticket, h.1.value.item)).0)

  pub last_greatest : (cs : List (StoredNode T)) (p : NodePtr) (v : Link T) → IsRising (pairs cs) → Some p ≡ last_of None (prevs cs) → AtCell cs p.at (λ _ c _. v ≡ c.value) → All (λ (e : ℕ × T). e.0 ≤ v.ticket) (pairs cs)
  last_greatest cs p v rising e told =
      let h = tail_at cs p e in let last : ℕ × T = (h.1.value.ticket, h.1.value.item) in
      let cut = ap pairs h.2 ∙ pairs-append h.0 (h.1 ∷ []) in
      let upto = all_up_to 0 last.0 (pairs h.0) last [] (subst IsRising cut rising) (omega arith) in
      subst (λ t. All (λ (x : ℕ × T). x.0 ≤ t) (pairs cs)) (sym (ap (λ (l : Link T). l.ticket) (told h.0 h.1 [] h.2 h.3)))
      (subst (All (λ (x : ℕ × T). x.0 ≤ last.0)) (sym cut) (listed_all (λ (x : ℕ × T). x.0 ≤ last.0) (pairs h.0 ++ last ∷ []) upto))

  pub empty : (cs : List (StoredNode T)) → None ≡ last_of None (prevs cs) → pairs cs ≡ []
  empty cs e = elim (ends cs) [
    | inl none ↦ ap pairs none
    | inr on ↦ absurd (some_none (ptr_of on.1) (sym (e ∙ ap (λ l. last_of None (prevs l)) on.2 ∙ last_prev on.0 on.1)))
  ]

  pub no_last : (cs : List (StoredNode T)) → None ≡ last_of None (prevs cs) → slice_get (pairs cs) (length (pairs cs) - 1) ≡ None
  no_last cs e = ap (λ l. slice_get l (length l - 1)) (empty cs e)

  from_fresh : (xs : List (StoredNode T)) (c : StoredNode T) (ys : List (StoredNode T)) → IsFresh c.at xs → nodes_from (Some (ptr_of c)) (xs ++ c ∷ ys) ≡ c ∷ ys
  from_fresh [] c ys f = ap (λ (b : Bool). cond b (c ∷ ys) (nodes_from (Some (ptr_of c)) ys)) (same_ptr_refl c.at)
  from_fresh (x ∷ xs) c ys f = ap (λ (b : Bool). cond b (x ∷ (xs ++ c ∷ ys)) (nodes_from (Some (ptr_of c)) (xs ++ c ∷ ys))) f.0 ∙ from_fresh xs c ys f.1

  -- the nodes to which a list leads are the remaining ones
  pub from_there : (cs xs ys : List (StoredNode T)) (at : Option NodePtr) → IsApart (ptrs cs) → cs ≡ xs ++ ys → at ≡ first_of (nexts ys) None → nodes_from at cs ≡ ys
  from_there cs xs [] at d parts leads = ap (λ a. nodes_from a cs) leads
  from_there cs xs (c ∷ ys) at d parts leads =
      let others = distinct_differs (λ (k : StoredNode T). k.at) same_ptr same_ptr_symm xs c ys (subst (λ l. IsApart (ptrs l)) parts d) in
      (λ i. nodes_from (leads i) (parts i)) ∙ from_fresh xs c ys (all_left (λ k. same_ptr c.at k.at ≡ false) xs ys others)

  -- a step of the iterator
  module _ (cs : List (StoredNode T)) (apart : IsApart (ptrs cs)) (p : NodePtr) (on : LeadsOn (Some p) cs) where
    pub record Goes : Type 0 where
      pub xs : List (StoredNode T)
      pub c : StoredNode T
      pub ys : List (StoredNode T)
      pub cut : cs ≡ xs ++ c ∷ ys
      pub here : c.at ≡ p.at
      pub next_is : c.value.next ≡ first_of (nexts ys) None
      pub rest : Forward (nexts ys) None
      pub left : nodes_from (Some p) cs ≡ c ∷ ys

    pub goes : Goes
    goes =
        let h = head_at on.1 p (sym on.3) in
        let cut = on.2 ∙ ap (λ l. on.0 ++ l) h.2 in
        let f = subst (λ l. Forward (nexts l) None) h.2 on.4 in
        record { xs = on.0; c = h.0; ys = h.1; cut = cut; here = ap (λ (q : NodePtr). q.at) h.3; next_is = f.0; rest = f.1; left = from_there cs on.0 on.1 (Some p) apart on.2 on.3 ∙ h.2 }

    pub leads_on : (s : Goes) → LeadsOn s.c.value.next cs
    leads_on s = (s.xs ++ s.c ∷ [], s.ys, s.cut ∙ sym (append_assoc s.xs (s.c ∷ []) s.ys), s.next_is, s.rest)

    pub one_gone : (s : Goes) → pairs (nodes_from (Some p) cs) ≡ (s.c.value.ticket, s.c.value.item) ∷ pairs (nodes_from s.c.value.next cs)
    one_gone s = ap pairs s.left ∙ ap (λ l. (s.c.value.ticket, s.c.value.item) ∷ pairs l) (sym (from_there cs (s.xs ++ s.c ∷ []) s.ys s.c.value.next apart (s.cut ∙ sym (append_assoc s.xs (s.c ∷ []) s.ys)) s.next_is))
