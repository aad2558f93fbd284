-- If leaves are taken out one after another, all others stay valid, and what was a leaf stays one.
use Rattle.std.proofs.Common.{◌≡◌, ◌≢◌, ℕ, zero, suc, ◌+◌, ◌<◌, ◌≤◌, Bool, true, false, cond, List, [], ◌∷◌, ◌++◌, length, get_or, take, refl, sym, ap, subst, ◌∙◌, add-one, arith}
use Rattle.std.specs.Prelude.{Option, None, Some, IfSome, not, map, option_map, nat_eq, All, AllPairs, Contains}
use Rattle.std.specs.List.Sorted.{IsStrictlyIncreasing}
use Rattle.std.specs.FinMap.{get}
use Rattle.std.specs.Cmp.Lexicographic.{pointwise, bytes_decides}
use Rattle.std.proofs.lemmas.Bool.{true≢false, ne_eqb}
use Rattle.std.proofs.lemmas.List.{get_or_default, get_or-take, length-take, take_all}
use Rattle.std.proofs.lemmas.List.Elements.{All-filter, All-contains, All-contains_itself, filter_passes, Contains-append_right}
use Rattle.std.proofs.lemmas.List.Folds.{list_any_none}
use Rattle.std.proofs.lemmas.List.Kept.{AllPairs-from_increasing}
use Rattle.mp_tx.specs.Transaction.{Transaction}
use Rattle.mp_tx.specs.Spelling.{id_of}
use Rattle.mp_tx.specs.Ledger.{LedgerState}
use Rattle.mp_utxo.specs.Apply.{Unspent}
use Rattle.mp_utxo.specs.Overlay.{Overlay}
use Rattle.mp_utxo.specs.Leaf.{IsFed, IsLeaf, LacksOne, others, other_items}
use Rattle.mp_utxo.proofs.Makers.{Apart, apart-ids}
use Rattle.mp_utxo.proofs.Items.{one_less as items_less}
use Rattle.mp_rules.specs.Verifier.{Accepts}
use Rattle.mp_rules.specs.Validity.{Chain}
use Rattle.mp_tickets.specs.Tickets.{IsRising, has_ticket, item_at, without}
use Rattle.mp_seqpool.specs.ValidatedTx.{ValidatedTx, ticketed}
use Rattle.mp_seqpool.specs.Keep.{transactions}
use Rattle.mp_seqpool.specs.Prepared.{apart}
use Rattle.mp_seqpool.specs.Inside.Chained.{all_accepted}
use Rattle.mp_seqpool.specs.Inside.NamedLeaves.{HasLeaves, Lacks}
use Rattle.mp_seqpool.proofs.Apart.{rising_filter}
use Rattle.mp_seqpool.proofs.Chained.{chain_fed}
use Rattle.mp_seqpool.proofs.Keeping.{AllPairs-unmap}
use Rattle.mp_seqpool.proofs.LeafOut.{Differ, others_but_one, leaf_out, leaf_still}
use Rattle.mp_seqpool.proofs.Reading.{item_ticketed}
use Rattle.mp_seqpool.proofs.Leavers.{cut, nothing, transactions-joined, distinct_filter, step_more}

abbrev Items : Type 0
Items = List (ℕ × Transaction)

-- ---- one ticket

-- the transaction with another ticket is still there
pub still_at : (gone : List ℕ) (items : Items) (n : ℕ) → has_ticket gone n ≡ false → item_at (apart gone items) n ≡ item_at items n
still_at gone [] n out = refl
still_at gone (i ∷ is) n out =
    let rest = still_at gone is n out in
    elim (has_ticket gone i.0) as (λ (b : Bool). has_ticket gone i.0 ≡ b → item_at (cond (not b) (i ∷ apart gone is) (apart gone is)) n ≡ item_at (i ∷ is) n) [
      | true ↦ λ h. rest ∙ sym (ap (λ b. cond b (Some i.1) (item_at is n)) (ne_eqb i.0 n (λ e. true≢false (sym h ∙ ap (has_ticket gone) e ∙ out))))
      | false ↦ λ h. ap (λ o. cond (nat_eq i.0 n) (Some i.1) o) rest
    ] refl

pub all_apart : (items : Items) → apart [] items ≡ items
all_apart [] = refl
all_apart (i ∷ is) = ap (λ l. i ∷ l) (all_apart is)

-- the transaction of the ticket, and all the others
pub record StandsAt (n : ℕ) (t : Transaction) (items : Items) : Type 0 where
  pub there : Contains (transactions items) t
  pub without_it : transactions (without items n) ≡ others (id_of t) (transactions items)
  pub other_items : without items n ≡ other_items (id_of t) items

pub stands_at : (items : Items) (n : ℕ) (t : Transaction) → IsRising items → AllPairs (λ a b. a ≢ b) (map id_of (transactions items)) → item_at items n ≡ Some t → StandsAt n t items
stands_at items n t rising distinct at =
    let c = cut 0 items n t rising at in
    let front : List Transaction = transactions c.front in
    let back : List Transaction = transactions c.back in
    let is : transactions items ≡ front ++ t ∷ back = ap transactions c.all ∙ transactions-joined c.front ((n, t) ∷ c.back) in
    let differ : AllPairs Differ (front ++ t ∷ back) = subst (AllPairs Differ) is (AllPairs-unmap id_of (λ a b. a ≢ b) (transactions items) distinct) in
    record {
      there = subst (λ ts. Contains ts t) (sym is) (Contains-append_right front (t ∷ back) t (0, omega arith, refl));
      without_it = ap transactions c.rest ∙ transactions-joined c.front c.back ∙ sym (ap (others (id_of t)) is ∙ others_but_one front t back differ);
      other_items = c.rest
          ∙ sym (ap (other_items (id_of t)) c.all ∙ items_less c.front n t c.back (subst (λ l. Apart (transactions l)) c.all (apart-ids (transactions items) distinct)));
    }

-- ---- those with other ids

among_all : (id : List ℕ) (ts : List Transaction) (s : Transaction) → Contains (others id ts) s → Contains ts s
among_all id ts s there =
    let other : Transaction → Bool = λ t. not (pointwise nat_eq (id_of t) id) in
    All-contains (Contains ts) (others id ts) s (All-filter other (Contains ts) ts (All-contains_itself ts)) there

other_id : (id : List ℕ) (ts : List Transaction) (s : Transaction) → Contains (others id ts) s → id ≢ id_of s
other_id id ts s there = λ same.
    let other : Transaction → Bool = λ t. not (pointwise nat_eq (id_of t) id) in
    let passes = All-contains (λ t. other t ≡ true) (others id ts) s (filter_passes other ts) there in
    true≢false (sym passes ∙ ap not ((bytes_decides (id_of s) id).1 (sym same)))

-- ---- one ticket after another

module _ (accepts : Accepts) (u : Unspent) (tick : ℕ) (all : Items) where
  -- of all, these remain
  pub record AreLeft (left : Items) : Type 0 where
    pub rising : IsRising left
    pub distinct : AllPairs (λ a b. a ≢ b) (map id_of (transactions left))
    pub chained : Chain accepts u tick (transactions left)
    -- what was a leaf of all is one of the remaining ones
    pub leaves : (s : Transaction) → Contains (transactions left) s → IsLeaf u (transactions all) s → IsLeaf u (transactions left) s

  pub one_less : (left : Items) (n : ℕ) (t : Transaction) → item_at left n ≡ Some t → IsLeaf u (transactions all) t → AreLeft left → AreLeft (without left n)
  one_less left n t at leaf l =
      let ts : List Transaction = transactions left in
      let stands = stands_at left n t l.rising l.distinct at in
      let here : IsLeaf u ts t = l.leaves t stands.there leaf in
      record {
        rising = rising_filter (λ i. not (nat_eq i.0 n)) 0 left l.rising;
        distinct = distinct_filter (λ i. not (nat_eq i.0 n)) left l.distinct;
        chained = subst (Chain accepts u tick) (sym stands.without_it) (leaf_out accepts u tick ts t here stands.there l.distinct l.chained);
        leaves = λ s in_it leaf.
            let among : Contains (others (id_of t) ts) s = subst (λ l. Contains l s) stands.without_it in_it in
            subst (λ l. IsLeaf u l s) (sym stands.without_it)
            (leaf_still accepts u tick ts t s here stands.there l.distinct l.chained (other_id (id_of t) ts s among) (l.leaves s (among_all (id_of t) ts s among) leaf));
      }

  module _ (gone : List ℕ) (rise : AllPairs (λ a b. a < b) gone) where
    -- a ticket isn't one of those before it
    not_before : (k : ℕ) → k < length gone → has_ticket (take k gone) (get_or gone k 0) ≡ false
    not_before k lt =
        list_any_none (λ t. nat_eq t (get_or gone k 0)) (take k gone) (λ j d within.
        let less : j < k = omega (arith, length-take k gone) in
        ne_eqb (get_or (take k gone) j d) (get_or gone k 0) (λ e.
        let lower : get_or gone j d < get_or gone k d = rise j k d less lt in
        let same : get_or gone k d ≡ get_or gone k 0 = get_or_default gone k d 0 lt in
        let seen : get_or (take k gone) j d ≡ get_or gone j d = get_or-take k gone j d less in
        omega arith))

    module _ (leaves : All (λ n. IfSome (item_at all n) (IsLeaf u (transactions all))) gone) (begin : AreLeft all) where
      module _ (k : ℕ) (lt : k < length gone) (l : AreLeft (apart (take k gone) all)) where
        left_at : item_at (apart (take k gone) all) (get_or gone k 0) ≡ item_at all (get_or gone k 0)
        left_at = still_at (take k gone) all (get_or gone k 0) (not_before k lt)

        one_more : (o : Option Transaction) → item_at all (get_or gone k 0) ≡ o → IfSome o (IsLeaf u (transactions all)) → AreLeft (without (apart (take k gone) all) (get_or gone k 0))
        one_more None at leaf = subst AreLeft (sym (nothing (apart (take k gone) all) (get_or gone k 0) (left_at ∙ at))) l
        one_more (Some t) at leaf = one_less (apart (take k gone) all) (get_or gone k 0) t (left_at ∙ at) leaf l

      pub so_far : (k : ℕ) → k ≤ length gone → AreLeft (apart (take k gone) all)
      so_far zero le = subst AreLeft (sym (all_apart all)) begin
      so_far (suc k) le =
          let l = so_far k (omega arith) in
          subst (λ m. AreLeft (apart (take m gone) all)) (add-one k)
          (subst AreLeft (step_more gone k 0 all (omega arith)) (one_more k (omega arith) l (item_at all (get_or gone k 0)) refl (leaves k 0 (omega arith))))

-- a chain stays one without leaves
pub all_out : (accepts : Accepts) (u : Unspent) (tick : ℕ) (items : Items) (gone : List ℕ) → AllPairs (λ a b. a < b) gone → All (λ n. IfSome (item_at items n) (IsLeaf u (transactions items))) gone → IsRising items
    → AllPairs (λ a b. a ≢ b) (map id_of (transactions items)) → Chain accepts u tick (transactions items) → Chain accepts u tick (transactions (apart gone items))
all_out accepts u tick items gone rise leaves rising distinct chain =
    let begin : AreLeft accepts u tick items items = record { rising = rising; distinct = distinct; chained = chain; leaves = λ s there leaf. leaf } in
    subst (λ l. Chain accepts u tick (transactions (apart l items))) (take_all (length gone) gone (omega arith))
    (so_far accepts u tick items gone rise leaves begin (length gone) (omega arith)).chained

-- ---- the overlay

-- the overlay can take the transaction out
pub record CanGo (o : Overlay) (t : Transaction) : Type 0 where
  pub leaf : IsLeaf (get o.ledger.utxo) o.applied t
  pub fed : IsFed (get o.ledger.utxo) o.applied
  pub distinct : AllPairs (λ a b. a ≢ b) (map id_of o.applied)
  pub there : Contains o.applied t

pub can_go_from : (now : Overlay) (ledger : LedgerState) (left : Items) (n : ℕ) (t : Transaction) → now.ledger ≡ ledger → now.applied ≡ transactions left → item_at left n ≡ Some t
    → IsRising left → AllPairs (λ a b. a ≢ b) (map id_of (transactions left)) → Chain all_accepted (get ledger.utxo) ledger.tick (transactions left) → IsLeaf (get ledger.utxo) (transactions left) t → CanGo now t
can_go_from now ledger left n t base applied at rising distinct chained leaf =
    let u = get ledger.utxo in
    record {
      leaf = subst (λ l. IsLeaf (get l.utxo) now.applied t) (sym base) (subst (λ ts. IsLeaf u ts t) (sym applied) leaf);
      fed = subst (λ l. IsFed (get l.utxo) now.applied) (sym base) (subst (IsFed u) (sym applied) (chain_fed all_accepted u ledger.tick (transactions left) chained));
      distinct = subst (λ ts. AllPairs (λ a b. a ≢ b) (map id_of ts)) (sym applied) distinct;
      there = subst (λ ts. Contains ts t) (sym applied) (stands_at left n t rising distinct at).there;
    }

module _ (old : Overlay) (items : Items) (gone : List ℕ) (rise : AllPairs (λ a b. a < b) gone) (has : HasLeaves old items gone) where
  begin : AreLeft all_accepted (get old.ledger.utxo) old.ledger.tick items items
  begin = record { rising = has.rising; distinct = has.distinct; chained = has.chained; leaves = λ s there leaf. leaf }

  left_after : (k : ℕ) → k ≤ length gone → AreLeft all_accepted (get old.ledger.utxo) old.ledger.tick items (apart (take k gone) items)
  left_after k le = so_far all_accepted (get old.ledger.utxo) old.ledger.tick items gone rise has.leaves begin k le

  module _ (now : Overlay) (k : ℕ) (lt : k < length gone) (lacks : Lacks old items (take k gone) now) where
    at_left : (o : Option Transaction) → item_at items (get_or gone k 0) ≡ o → item_at (apart (take k gone) items) (get_or gone k 0) ≡ o
    at_left o at = still_at (take k gone) items (get_or gone k 0) (not_before all_accepted (get old.ledger.utxo) old.ledger.tick items gone rise k lt) ∙ at

    -- the transaction of the next ticket can be taken out
    pub next_can_go : (t : Transaction) → item_at items (get_or gone k 0) ≡ Some t → CanGo now t
    next_can_go t at =
        let l = left_after k (omega arith) in
        let left : Items = apart (take k gone) items in
        let here = at_left (Some t) at in
        let leaf = subst (λ o. IfSome o (IsLeaf (get old.ledger.utxo) (transactions items))) at (has.leaves k 0 lt) in
        can_go_from now old.ledger left (get_or gone k 0) t lacks.base lacks.applied here l.rising l.distinct l.chained (l.leaves t (stands_at left (get_or gone k 0) t l.rising l.distinct here).there leaf)

    -- and then one more is out
    pub next_out : (t : Transaction) (new : Overlay) → item_at items (get_or gone k 0) ≡ Some t → LacksOne now (id_of t) new → Lacks old items (take (k + 1) gone) new
    next_out t new at one =
        let l = left_after k (omega arith) in
        let left : Items = apart (take k gone) items in
        record {
          base = one.base ∙ lacks.base;
          applied = one.applied ∙ ap (others (id_of t)) lacks.applied ∙ sym (stands_at left (get_or gone k 0) t l.rising l.distinct (at_left (Some t) at)).without_it
              ∙ ap transactions (step_more gone k 0 items lt);
          under = one.items ∙ ap (other_items (id_of t)) lacks.under ∙ sym (stands_at left (get_or gone k 0) t l.rising l.distinct (at_left (Some t) at)).other_items
              ∙ step_more gone k 0 items lt;
          chained = (left_after (k + 1) (omega arith)).chained;
        }

    -- if the ticket has none, nothing changes
    pub next_none : item_at items (get_or gone k 0) ≡ None → Lacks old items (take (k + 1) gone) now
    next_none at = record {
      base = lacks.base;
      applied = lacks.applied ∙ ap transactions (sym (nothing (apart (take k gone) items) (get_or gone k 0) (at_left None at)) ∙ step_more gone k 0 items lt);
      under = lacks.under ∙ sym (nothing (apart (take k gone) items) (get_or gone k 0) (at_left None at)) ∙ step_more gone k 0 items lt;
      chained = (left_after (k + 1) (omega arith)).chained;
    }

-- nothing is taken out
pub none_out : (old : Overlay) (items : Items) (gone : List ℕ) → HasLeaves old items gone → Lacks old items [] old
none_out old items gone has = record {
  base = refl;
  applied = has.applied ∙ sym (ap transactions (all_apart items));
  under = has.under ∙ sym (all_apart items);
  chained = subst (λ l. Chain all_accepted (get old.ledger.utxo) old.ledger.tick (transactions l)) (sym (all_apart items)) has.chained;
}

-- ---- what the code finds for the next ticket

module _ (old now : Overlay) (items : List (ℕ × ValidatedTx)) (gone told : List ℕ) (k : ℕ) (has : HasLeaves old (ticketed items) gone) (same : told ≡ gone) (rising : IsStrictlyIncreasing told)
    (lt : k < length told) (lacks : Lacks old (ticketed items) (take k gone) now) where
  all_told : HasLeaves old (ticketed items) told
  all_told = subst (HasLeaves old (ticketed items)) (sym same) has

  some_told : Lacks old (ticketed items) (take k told) now
  some_told = subst (λ l. Lacks old (ticketed items) (take k l) now) (sym same) lacks

  seen_at : (o : Option ValidatedTx) → o ≡ item_at items (get_or told k 0) → item_at (ticketed items) (get_or told k 0) ≡ option_map (λ v. v.tx) o
  seen_at o at = item_ticketed items (get_or told k 0) ∙ ap (option_map (λ v. v.tx)) (sym at)

  pub found_can_go : (item : ValidatedTx) (t : Transaction) → Some item ≡ item_at items (get_or told k 0) → t ≡ item.tx → CanGo now t
  found_can_go item t at is =
      next_can_go old (ticketed items) told (AllPairs-from_increasing told rising) all_told now k lt some_told t (seen_at (Some item) at ∙ ap Some (sym is))

  pub found_out : (item : ValidatedTx) (t : Transaction) (new : Overlay) → Some item ≡ item_at items (get_or told k 0) → t ≡ item.tx → LacksOne now (id_of t) new → Lacks old (ticketed items) (take (k + 1) gone) new
  found_out item t new at is one =
      subst (λ l. Lacks old (ticketed items) (take (k + 1) l) new) same
      (next_out old (ticketed items) told (AllPairs-from_increasing told rising) all_told now k lt some_told t new (seen_at (Some item) at ∙ ap Some (sym is)) one)

  pub none_found : None ≡ item_at items (get_or told k 0) → Lacks old (ticketed items) (take (k + 1) gone) now
  none_found at =
      subst (λ l. Lacks old (ticketed items) (take (k + 1) l) now) same
      (next_none old (ticketed items) told (AllPairs-from_increasing told rising) all_told now k lt some_told (seen_at None at))
