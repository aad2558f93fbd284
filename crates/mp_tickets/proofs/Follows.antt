-- The loop that goes back from the end of a list to the first node with a greater ticket.
use Rattle.std.proofs.Common.{◌≡◌, ℕ, ◌+◌, ◌<◌, ◌≤◌, List, [], ◌∷◌, ◌++◌, length, Option, Some, None, inl, inr, refl, sym, ap, ◌∙◌, subst, append_assoc, append-nil, length-append, arith}
use Rattle.std.specs.List.{AllByRecursion}
use Rattle.std.proofs.lemmas.Bool.{cases_lt}
use Rattle.mp_tickets.specs.Inside.Cell.{IsAt, AtCell}
use Rattle.mp_tickets.specs.Tickets.{IsRising, after}
use Rattle.mp_tickets.specs.declared.node_store.NodePtr.{NodePtr}
use Rattle.mp_tickets.specs.declared.node.Link.{Link}
use Rattle.mp_tickets.specs.declared.chain.Found.{Found}
use Rattle.mp_tickets.specs.declared.chain.Chain.{Chain}
use Rattle.mp_tickets.specs.Inside.Links.{first_of, last_of, Forward, Back, StoredNode, ptr_of, prevs, nexts, pairs}
use Rattle.mp_tickets.specs.Inside.Chain.{IsChained}
use Rattle.mp_tickets.specs.Inside.Found.{IsFound, IsFirstAfter, HasNone}
use Rattle.mp_tickets.proofs.Links.{Forward-right, Back-right, nexts-append, prevs-append, pairs-append, last_prev, ends, head_at, no_head}
use Rattle.mp_tickets.proofs.Seeks.{up_to, up_to-cut, some_none, same_some}
use Rattle.mp_tickets.proofs.Rising.{after-append, after-none, after-all, all_up_to, rising_after}

all_higher : {T : Type 0} (low m : ℕ) (ys : List (ℕ × T)) → low < m → AllByRecursion (λ (y : ℕ × T). m < y.0) ys → AllByRecursion (λ (y : ℕ × T). low < y.0) ys
all_higher low m [] h all = tt
all_higher low m (y ∷ ys) h all = let k = all.0 in (omega arith, all_higher low m ys h all.1)

-- the nodes from `after` on have greater tickets, and `at` is the last of the others
abbrev pub Follows : {T : Type 0} → ℕ → List (StoredNode T) → Option NodePtr → Option NodePtr → Type 0
Follows {T} ticket cs next at = (us : List (StoredNode T)) × (vs : List (StoredNode T)) × (cs ≡ us ++ vs) × (at ≡ last_of None (prevs us)) × (next ≡ first_of (nexts vs) None) × AllByRecursion (λ (e : ℕ × T). ticket < e.0) (pairs vs)

-- no node has a ticket greater than near and at most the given one
pub record IsNear {T : Type 0} (near ticket : ℕ) (cs : List (StoredNode T)) : Type 0 where
  pub below : near ≤ ticket
  pub none : AllByRecursion (λ (c : StoredNode T). near < c.value.ticket → ticket < c.value.ticket) cs

module _ {T : Type 0} (ticket : ℕ) where
  at_first : (cs : List (StoredNode T)) → AllByRecursion (λ (c : StoredNode T). ticket < c.value.ticket → ticket < c.value.ticket) cs
  at_first [] = tt
  at_first (c ∷ cs) = ((λ h. h), at_first cs)

  pub near_first : (cs : List (StoredNode T)) → IsNear ticket ticket cs
  near_first cs = record { below = omega arith; none = at_first cs }

  one_less : (near less : ℕ) (cs : List (StoredNode T)) → near ≤ less + 1 → HasNone near cs
      → AllByRecursion (λ (c : StoredNode T). near < c.value.ticket → ticket < c.value.ticket) cs → AllByRecursion (λ (c : StoredNode T). less < c.value.ticket → ticket < c.value.ticket) cs
  one_less near less [] one none all = tt
  one_less near less (c ∷ cs) one none all = (
    λ h. elim (cases_lt near c.value.ticket) [
      | inl above ↦ all.0 above
      | inr under ↦ absurd (none.0 (omega arith))
    ],
    one_less near less cs one none.1 all.1,
  )

  -- no node has the ticket near
  pub near_less : (near less : ℕ) (cs : List (StoredNode T)) → less ≤ near → near ≤ less + 1 → HasNone near cs → IsNear near ticket cs → IsNear less ticket cs
  near_less near less cs low one none n = let h = n.below in record { below = omega arith; none = one_less near less cs one none n.none }

  -- nodes with tickets greater than near have tickets greater than the given one
  greater : (near : ℕ) (cs : List (StoredNode T)) → AllByRecursion (λ (c : StoredNode T). near < c.value.ticket → ticket < c.value.ticket) cs
      → AllByRecursion (λ (e : ℕ × T). near < e.0) (pairs cs) → AllByRecursion (λ (e : ℕ × T). ticket < e.0) (pairs cs)
  greater near [] all high = tt
  greater near (c ∷ cs) all high = (all.0 high.0, greater near cs all.1 high.1)

  right : (near : ℕ) (xs ys : List (StoredNode T)) → AllByRecursion (λ (c : StoredNode T). near < c.value.ticket → ticket < c.value.ticket) (xs ++ ys)
      → AllByRecursion (λ (c : StoredNode T). near < c.value.ticket → ticket < c.value.ticket) ys
  right near [] ys all = all
  right near (x ∷ xs) ys all = right near xs ys all.1

  -- the node after the one with the ticket near
  pub after_near : (near m : ℕ) (cs : List (StoredNode T)) (f : Found) (next : Option NodePtr) → Forward (nexts cs) None → IsRising (pairs cs) → IsNear near ticket cs → (found : IsFound m near cs f)
      → next ≡ found.1.value.next → IsFirstAfter ticket cs next
  after_near near m cs f next forward rising n found is =
      let xs = found.0 in let c = found.1 in let ys = found.2 in
      let e : ℕ × T = (c.value.ticket, c.value.item) in
      let all_pairs : pairs cs ≡ pairs xs ++ e ∷ pairs ys = ap pairs found.3 ∙ pairs-append xs (c ∷ ys) in
      let rises : IsRising (pairs xs ++ e ∷ pairs ys) = subst IsRising all_pairs rising in
      let behind = (Forward-right (nexts xs) (nexts (c ∷ ys)) None (subst (λ l. Forward l None) (ap nexts found.3 ∙ nexts-append xs (c ∷ ys)) forward)).0 in
      let high = subst (λ t. AllByRecursion (λ (y : ℕ × T). t < y.0) (pairs ys)) found.5 (rising_after 0 (pairs xs) e (pairs ys) rises) in
      let above = greater near ys (right near (xs ++ c ∷ []) ys (subst (AllByRecursion (λ (k : StoredNode T). near < k.value.ticket → ticket < k.value.ticket)) (found.3 ∙ sym (append_assoc xs (c ∷ []) ys)) n.none)) high in
      let low : e.0 ≤ ticket = subst (λ t. t ≤ ticket) (sym found.5) n.below in
      let upto = all_up_to 0 ticket (pairs xs) e (pairs ys) rises low in (
        xs ++ c ∷ [],
        ys,
        found.3 ∙ sym (append_assoc xs (c ∷ []) ys),
        is ∙ behind,
        sym (ap (λ l. after l ticket) (all_pairs ∙ sym (append_assoc (pairs xs) (e ∷ []) (pairs ys))) ∙ after-append ticket (pairs xs ++ e ∷ []) (pairs ys)
            ∙ (λ i. after-none ticket (pairs xs ++ e ∷ []) upto i ++ after-all ticket (pairs ys) above i)),
      )

  -- all come after it if the first one does
  pub after_front : (cs : List (StoredNode T)) (p : NodePtr) (v : Link T) → Some p ≡ first_of (nexts cs) None → AtCell cs p.at (λ _ c _. v ≡ c.value) → IsRising (pairs cs) → ticket < v.ticket → IsFirstAfter ticket cs (Some p)
  after_front cs p v leads told rising low =
      let h = head_at cs p (sym leads) in
      let e : ℕ × T = (h.0.value.ticket, h.0.value.item) in
      let first = ap (λ (l : Link T). l.ticket) (told [] h.0 h.1 h.2 (ap (λ (q : NodePtr). q.at) h.3)) in
      let under : ticket < e.0 = subst (λ t. ticket < t) first low in
      let rises : IsRising (e ∷ pairs h.1) = subst IsRising (ap pairs h.2) rising in
      let rest = rising_after 0 [] e (pairs h.1) rises in
      ([], cs, refl, leads, sym (ap (λ l. after l ticket) (ap pairs h.2) ∙ after-all ticket (e ∷ pairs h.1) (under, all_higher ticket e.0 (pairs h.1) under rest) ∙ sym (ap pairs h.2)))

  -- in an empty list, nothing comes after it
  pub after_nothing : (cs : List (StoredNode T)) → None ≡ first_of (nexts cs) None → IsFirstAfter ticket cs None
  after_nothing cs leads = let none = no_head cs (sym leads) in ([], cs, refl, leads, subst (λ l. pairs l ≡ after (pairs l) ticket) (sym none) refl)

module _ {T : Type 0} (o : Chain T) (chained : IsChained o) (rising : IsRising (pairs o.nodes.cells)) (ticket : ℕ) where
  pub follows_first : Follows ticket o.nodes.cells None o.back
  follows_first = (o.nodes.cells, [], sym (append-nil o.nodes.cells), chained.back, refl, tt)

  pub record Last (next : Option NodePtr) (p : NodePtr) : Type 0 where
    pub us : List (StoredNode T)
    pub c : StoredNode T
    pub vs : List (StoredNode T)
    pub cut : o.nodes.cells ≡ us ++ c ∷ vs
    pub here : ptr_of c ≡ p
    pub next_is : next ≡ first_of (nexts vs) None
    pub greater : AllByRecursion (λ (e : ℕ × T). ticket < e.0) (pairs vs)

  pub last : (next : Option NodePtr) (p : NodePtr) → Follows ticket o.nodes.cells next (Some p) → Last next p
  last next p f = elim (ends f.0) [
    | inl none ↦ absurd (some_none p (f.3 ∙ ap (λ l. last_of None (prevs l)) none))
    | inr on ↦ record {
      us = on.0;
      c = on.1;
      vs = f.1;
      cut = f.2 ∙ ap (λ l. l ++ f.1) on.2 ∙ append_assoc on.0 (on.1 ∷ []) f.1;
      here = sym (same_some p (ptr_of on.1) (f.3 ∙ ap (λ l. last_of None (prevs l)) on.2 ∙ last_prev on.0 on.1));
      next_is = f.4;
      greater = f.5;
    }
  ]

  module _ (next : Option NodePtr) (p : NodePtr) (s : Last next p) where
    pub last_there : IsAt o.nodes.cells p.at
    last_there = (s.us, s.c, s.vs, s.cut, ap (λ (q : NodePtr). q.at) s.here)

    all_pairs : pairs o.nodes.cells ≡ pairs s.us ++ (s.c.value.ticket, s.c.value.item) ∷ pairs s.vs
    all_pairs = ap pairs s.cut ∙ pairs-append s.us (s.c ∷ s.vs)

    pub stops : s.c.value.ticket ≤ ticket → IsFirstAfter ticket o.nodes.cells next
    stops low =
        let e : ℕ × T = (s.c.value.ticket, s.c.value.item) in
        let upto = all_up_to 0 ticket (pairs s.us) e (pairs s.vs) (subst IsRising all_pairs rising) low in (
          s.us ++ s.c ∷ [],
          s.vs,
          s.cut ∙ sym (append_assoc s.us (s.c ∷ []) s.vs),
          s.next_is,
          sym (ap (λ l. after l ticket) (all_pairs ∙ sym (append_assoc (pairs s.us) (e ∷ []) (pairs s.vs))) ∙ after-append ticket (pairs s.us ++ e ∷ []) (pairs s.vs)
              ∙ (λ i. after-none ticket (pairs s.us ++ e ∷ []) upto i ++ after-all ticket (pairs s.vs) s.greater i)),
        )

    prev_is : s.c.value.prev ≡ last_of None (prevs s.us)
    prev_is = (Back-right None (prevs s.us) (prevs (s.c ∷ s.vs)) (subst (Back None) (ap prevs s.cut ∙ prevs-append s.us (s.c ∷ s.vs)) chained.backward)).0

    pub follows_on : ticket < s.c.value.ticket → Follows ticket o.nodes.cells (Some p) s.c.value.prev
    follows_on high = (s.us, s.c ∷ s.vs, s.cut, prev_is, ap Some (sym s.here), (high, s.greater))

    here_long : length (up_to (Some p) o.nodes.cells) ≡ length s.us + 1
    here_long = ap (λ q. length (up_to (Some q) o.nodes.cells)) (sym s.here) ∙ ap length (up_to-cut o.nodes.cells s.us s.c s.vs o.nodes.apart s.cut) ∙ length-append s.us (s.c ∷ [])

    pub follows_less : length (up_to s.c.value.prev o.nodes.cells) < length (up_to (Some p) o.nodes.cells)
    follows_less = subst (λ q. length (up_to q o.nodes.cells) < length (up_to (Some p) o.nodes.cells)) (sym prev_is) (elim (ends s.us) [
      | inl none ↦ subst (λ l. length (up_to (last_of None (prevs l)) o.nodes.cells) < length (up_to (Some p) o.nodes.cells)) (sym none) (let long = here_long in omega arith)
      | inr on ↦
          let from = ap (λ l. last_of None (prevs l)) on.2 ∙ last_prev on.0 on.1 in
          let cut = s.cut ∙ ap (λ l. l ++ s.c ∷ s.vs) on.2 ∙ append_assoc on.0 (on.1 ∷ []) (s.c ∷ s.vs) in
          let short = ap (λ q. length (up_to q o.nodes.cells)) from ∙ ap length (up_to-cut o.nodes.cells on.0 on.1 (s.c ∷ s.vs) o.nodes.apart cut) ∙ length-append on.0 (on.1 ∷ []) in
          let parts = ap length on.2 ∙ length-append on.0 (on.1 ∷ []) in let long = here_long in
          omega arith
    ])

  pub follows_end : (next : Option NodePtr) → Follows ticket o.nodes.cells next None → IsFirstAfter ticket o.nodes.cells next
  follows_end next f = elim (ends f.0) [
    | inl none ↦
        let cut : o.nodes.cells ≡ f.1 = f.2 ∙ ap (λ l. l ++ f.1) none in
        ([], f.1, cut, f.4, sym (ap (λ l. after l ticket) (ap pairs cut) ∙ after-all ticket (pairs f.1) f.5))
    | inr on ↦ absurd (some_none (ptr_of on.1) (sym (f.3 ∙ ap (λ l. last_of None (prevs l)) on.2 ∙ last_prev on.0 on.1)))
  ]
