-- What stays and what goes, if the changes of the ledger decide it.
use Rattle.std.proofs.Common.{◌≡◌, ◌≢◌, ℕ, ◌<◌, ◌≤◌, ⊎_elim, Bool, true, false, cond, List, [], ◌∷◌, get_or, refl, sym, ap, subst, ◌∙◌, arith}
use Rattle.std.specs.Prelude.{Option, None, Some, IsSome, IfSome, is_some, is_none, not, nat_le, ◌&&◌, ◌||◌, map, All, AllPairs, Ok}
use Rattle.std.specs.Option.{option_or}
use Rattle.std.specs.List.{filter, list_any, AllByRecursion}
use Rattle.std.specs.FinMap.{get}
use Rattle.std.specs.Cmp.{first_so, second_so}
use Rattle.std.proofs.lemmas.Bool.{true≢false, false_from_ne_true, eq-eqb, ne_eqb}
use Rattle.std.proofs.lemmas.Bool.Decides.{nat_tests}
use Rattle.std.proofs.lemmas.List.Elements.{recursion_from_All, All-from_recursion}
use Rattle.std.proofs.lemmas.List.Folds.{Any-from_list_any}
use Rattle.mp_tx.specs.declared.reference.OutRef.{OutRef}
use Rattle.mp_tx.specs.declared.input.Input.{Input}
use Rattle.mp_tx.specs.declared.output.Output.{Output}
use Rattle.mp_tx.specs.Transaction.{Transaction, spends}
use Rattle.mp_tx.specs.Spelling.{id_of}
use Rattle.mp_tx.specs.Ledger.{LedgerState}
use Rattle.mp_utxo.specs.Apply.{Unspent, apply, own_ref, output_made}
use Rattle.mp_utxo.specs.Overlay.{Overlay}
use Rattle.mp_utxo.specs.Leaf.{NoneMakes, IsFed, IsOfOne, IsLeaf}
use Rattle.mp_rules.specs.declared.invalid.Invalid.{Invalid}
use Rattle.mp_rules.specs.Verifier.{Accepts}
use Rattle.mp_rules.specs.Validity.{Chain, IsValid, InInterval, InputsThere, OutputsFresh}
use Rattle.mp_rules.specs.FirstFault.{first_fault}
use Rattle.mp_rules.proofs.Faults.{each_rule}
use Rattle.mp_rules.proofs.Meeting.{validity_is_local}
use Rattle.mp_rules.proofs.Valid.{valid}
use Rattle.mp_tickets.specs.Tickets.{IsRisingFrom, IsRising, item_at}
use Rattle.mp_seqpool.specs.ValidatedTx.{ticketed}
use Rattle.mp_seqpool.specs.Parted.{is_timely, is_spent_since, is_lost, IsUntouched}
use Rattle.mp_seqpool.specs.Keep.{transactions, tickets, is_valid, keep_upon, keep, dropped_upon}
use Rattle.mp_seqpool.specs.declared.command.Reply.TheVariants.{Synced}
use Rattle.mp_seqpool.specs.Command.{Sync}
use Rattle.mp_seqpool.specs.Pool.{Pool, Holding}
use Rattle.mp_seqpool.specs.SlowPool.{AreSigned, pool_upon, answer}
use Rattle.mp_seqpool.specs.Prepared.{Prepared, IsLeafAt, changed, CanChange, Prepares, leads_to, told, apart}
use Rattle.mp_seqpool.specs.declared.pool.SeqPool.TheInside.{Inside}
use Rattle.mp_seqpool.specs.Inside.Chained.{all_accepted, IsChained}
use Rattle.mp_seqpool.specs.Inside.NamedLeaves.{Lacks}
use Rattle.mp_seqpool.specs.Inside.Steps.{AdoptsParted}
use Rattle.mp_seqpool.proofs.Apart.{all_above, above_tested, apart_tested, rising_filter}
use Rattle.mp_seqpool.proofs.Chained.{clear, chain_signed, chain_fed}
use Rattle.mp_seqpool.proofs.LeafOut.{none_there, spent_gone, passed_by, still_gone}
use Rattle.mp_seqpool.proofs.LeavesOut.{all_out}
use Rattle.mp_seqpool.proofs.Left.{within, synced_as, yes_next}
use Rattle.mp_seqpool.proofs.TicketsNamed.{tickets_rise}

abbrev Items : Type 0
Items = List (ℕ × Transaction)

-- ---- a reference in two maps

-- the outputs that can be spent after the same transactions, on the old map and the new one
record Stands (ts : List Transaction) (old new u v : Unspent) : Type 0 where
  -- if both maps had the same, both have the same
  same : (r : OutRef) → old r ≡ new r → u r ≡ v r
  -- what is gone on the old map, and isn't in the new one, is gone there too
  none : (r : OutRef) → u r ≡ None → new r ≡ None → v r ≡ None
  -- what none of these makes isn't there, if the new map doesn't have it
  unmade : (r : OutRef) → NoneMakes ts r → new r ≡ None → v r ≡ None

none_by : (t : Transaction) (u v : Unspent) (r : OutRef) (m : Option Output) (s : Bool) → output_made t r ≡ m → spends t.inputs r ≡ s → apply t u r ≡ None → (u r ≡ None → v r ≡ None) → apply t v r ≡ None
none_by t u v r (Some o) s made spent gone go =
    absurd (true≢false (ap is_some (sym (ap (λ m. option_or m (cond (spends t.inputs r) None (u r))) made) ∙ gone)))
none_by t u v r None true made spent gone go = spent_gone t v r made spent
none_by t u v r None false made spent gone go = passed_by t v r made spent ∙ go (sym (passed_by t u r made spent) ∙ gone)

after_one : (ts : List Transaction) (old new u v : Unspent) (t : Transaction) → ((r : OutRef) → NoneMakes ts r → output_made t r ≡ None) → Stands ts old new u v → Stands ts old new (apply t u) (apply t v)
after_one ts old new u v t among s = record {
  same = λ r e. ap (λ o. option_or (output_made t r) (cond (spends t.inputs r) None o)) (s.same r e);
  none = λ r gone empty. none_by t u v r (output_made t r) (spends t.inputs r) refl refl gone (λ e. s.none r e empty);
  unmade = λ r nobody empty. still_gone t v r (among r nobody) (s.unmade r nobody empty);
}

-- ---- one transaction

is_at_least : (a b : ℕ) → nat_le a b ≡ true → a ≤ b
is_at_least a b e = grind (arith, nat_tests)

is_most : (a b : ℕ) → a ≤ b → nat_le a b ≡ true
is_most a b e = grind (arith, nat_tests)

empty : (o : Option Output) → is_none o ≡ true → o ≡ None
empty None e = refl
empty (Some x) e = absurd (true≢false (sym e))

second_true : (a b : Bool) → (not a || b) ≡ true → a ≡ true → b ≡ true
second_true true b e h = e
second_true false b e h = absurd (true≢false (sym h))

module _ (accepts : Accepts) (ts : List Transaction) (old new : LedgerState) where
  abbrev base : Unspent
  base = get old.utxo

  abbrev other : Unspent
  other = get new.utxo

  module _ (u v : Unspent) (t : Transaction) (s : Stands ts base other u v) where
    -- what is untouched stays valid
    stays_valid : IsValid accepts u old.tick t → IsUntouched old new t → IsValid accepts v new.tick t
    stays_valid was still =
        let fresh = (each_rule accepts other new.tick t OutputsFresh).holds still.fresh in
        validity_is_local accepts u v old.tick new.tick t
        (record {
          inputs = λ k d lt. s.same (get_or t.inputs k d).from (still.inputs k d lt);
          references = λ k d lt. s.same (get_or t.references k d) (still.references k d lt);
          own = λ k lt. was OutputsFresh k lt ∙ sym (s.none (own_ref t k) (was OutputsFresh k lt) (fresh k lt));
        })
        was (is_at_least t.from new.tick (first_so _ _ still.timely)) (is_at_least new.tick t.to (second_so _ _ still.timely))

    lost_by : (r : OutRef) → is_spent_since base other r ≡ true → IsOfOne base ts r → v r ≡ None
    lost_by r e one =
        ⊎_elim (λ (nobody : NoneMakes ts r). s.unmade r nobody (empty (other r) (second_so _ _ e))) (λ (none : base r ≡ None). absurd (none_there (base r) none (first_so _ _ e))) one

    -- what is lost isn't valid
    goes_invalid : is_lost old new t ≡ true → All (λ i. IsOfOne base ts i.from) t.inputs → IsValid accepts v new.tick t → ⊥
    goes_invalid lost ones is =
        let timely : is_timely new.tick t ≡ true = let i = is InInterval in ap (λ b. b && nat_le new.tick t.to) (is_most t.from new.tick i.0) ∙ is_most new.tick t.to i.1 in
        let test : Input → Bool = λ i. is_spent_since base other i.from in
        let any = Any-from_list_any test t.inputs (second_true (is_timely new.tick t) (list_any test t.inputs) lost timely) in
        none_there (v any.1.from)
        (lost_by any.1.from any.4 (subst (λ (i : Input). IsOfOne base ts i.from) any.3 (ones any.0 any.1 any.2)))
        (subst (λ (i : Input). IsSome (v i.from)) any.3 (is InputsThere any.0 any.1 any.2))

  -- ---- one after another

  abbrev stay : Items → Items
  stay items = filter (λ i. not (is_lost old new i.1)) items

  abbrev go : Items → Items
  go items = filter (λ i. is_lost old new i.1) items

  -- what is known of the items that are left
  record AreSo (items : Items) : Type 0 where
    untouched : AllByRecursion (λ i. is_lost old new i.1 ≡ false → IsUntouched old new i.1) items
    ones : AllByRecursion (λ i. is_lost old new i.1 ≡ true → All (λ j. IsOfOne base ts j.from) i.1.inputs) items
    among : AllByRecursion (λ i. (r : OutRef) → NoneMakes ts r → output_made i.1 r ≡ None) items

  later : (i : ℕ × Transaction) (is : Items) → AreSo (i ∷ is) → AreSo is
  later i is so = record { untouched = so.untouched.1; ones = so.ones.1; among = so.among.1 }

  none_of : (o : Option Invalid) → is_none o ≡ true → o ≡ None
  none_of None e = refl
  none_of (Some x) e = absurd (true≢false (sym e))

  refused : (v : Unspent) (t : Transaction) → (IsValid accepts v new.tick t → ⊥) → is_valid accepts v new.tick t ≡ false
  refused v t no_way = false_from_ne_true (is_valid accepts v new.tick t) (λ e. no_way (valid accepts v new.tick t (none_of (first_fault accepts v new.tick t) e)))

  -- what stays is kept, and what goes is dropped
  record Sorted (v : Unspent) (items : Items) : Type 0 where
    kept : keep_upon accepts v new.tick items ≡ stay items
    dropped : dropped_upon accepts v new.tick items ≡ tickets (go items)

  sorted : (items : Items) (u v : Unspent) → Stands ts base other u v → AreSo items → Chain accepts u old.tick (transactions (stay items)) → Sorted v items
  sorted [] u v s so chain = record { kept = refl; dropped = refl }
  sorted (i ∷ is) u v s so chain =
      elim (is_lost old new i.1) as (λ (b : Bool). is_lost old new i.1 ≡ b → Chain accepts u old.tick (transactions (cond (not b) (i ∷ stay is) (stay is)))
      → Sorted v (i ∷ is)) [
        | true ↦ λ lost chain.
            let rest = sorted is u v s (later i is so) chain in
            let not_so : is_valid accepts v new.tick i.1 ≡ false = refused v i.1 (goes_invalid u v i.1 s lost (so.ones.0 lost)) in
            record {
              kept = ap (λ b. cond b (i ∷ keep_upon accepts (apply i.1 v) new.tick is) (keep_upon accepts v new.tick is)) not_so ∙ rest.kept ∙ sym (ap (λ b. cond (not b) (i ∷ stay is) (stay is)) lost);
              dropped = ap (λ b. cond b (dropped_upon accepts (apply i.1 v) new.tick is) (i.0 ∷ dropped_upon accepts v new.tick is)) not_so
                  ∙ ap (λ l. i.0 ∷ l) rest.dropped ∙ sym (ap (λ b. tickets (cond b (i ∷ go is) (go is))) lost);
            }
        | false ↦ λ whole chain.
            let rest = sorted is (apply i.1 u) (apply i.1 v) (after_one ts base other u v i.1 so.among.0 s) (later i is so) chain.1 in
            let is_so : is_valid accepts v new.tick i.1 ≡ true = clear accepts v new.tick i.1 (stays_valid u v i.1 s chain.0 (so.untouched.0 whole)) in
            record {
              kept = ap (λ b. cond b (i ∷ keep_upon accepts (apply i.1 v) new.tick is) (keep_upon accepts v new.tick is)) is_so ∙ ap (λ l. i ∷ l) rest.kept ∙ sym (ap (λ b. cond (not b) (i ∷ stay is) (stay is)) whole);
              dropped = ap (λ b. cond b (dropped_upon accepts (apply i.1 v) new.tick is) (i.0 ∷ dropped_upon accepts v new.tick is)) is_so ∙ rest.dropped ∙ sym (ap (λ b. tickets (cond b (i ∷ go is) (go is))) whole);
            }
      ] refl chain

-- ---- what is known at the start

each_made : (ts : List Transaction) (items : Items) → ((r : OutRef) → NoneMakes ts r → AllByRecursion (λ t. output_made t r ≡ None) (transactions items)) → AllByRecursion (λ i. (r : OutRef) → NoneMakes ts r → output_made i.1 r ≡ None) items
each_made ts [] f = tt
each_made ts (i ∷ is) f = (λ r nobody. (f r nobody).0, each_made ts is (λ r nobody. (f r nobody).1))

-- each of the tickets that pass a test is that of a leaf
module _ (u : Unspent) (ts : List Transaction) (test : ℕ × Transaction → Bool) where
  abbrev At : Items → ℕ → Type 0
  At all n = IfSome (item_at all n) (IsLeaf u ts)

  at_first : (i : ℕ × Transaction) (is : Items) → IsLeaf u ts i.1 → At (i ∷ is) i.0
  at_first i is leaf = subst (λ o. IfSome o (IsLeaf u ts)) (sym (ap (λ b. cond b (Some i.1) (item_at is i.0)) (eq-eqb i.0 i.0 refl))) leaf

  at_later : (i : ℕ × Transaction) (is : Items) (ns : List ℕ) → AllByRecursion (λ n. i.0 < n) ns → AllByRecursion (At is) ns → AllByRecursion (At (i ∷ is)) ns
  at_later i is [] above a = tt
  at_later i is (n ∷ ns) above a =
      let lt = above.0 in
      (subst (λ o. IfSome o (IsLeaf u ts)) (sym (ap (λ b. cond b (Some i.1) (item_at is n)) (ne_eqb i.0 n (λ e. omega arith)))) a.0, at_later i is ns above.1 a.1)

  leaf_step : (i : ℕ × Transaction) (is : Items) (b : Bool) → test i ≡ b → (test i ≡ true → IsLeaf u ts i.1) → AllByRecursion (At (i ∷ is)) (tickets (filter test is)) → AllByRecursion (At (i ∷ is)) (tickets (cond b (i ∷ filter test is) (filter test is)))
  leaf_step i is true e leaf a = (at_first i is (leaf e), a)
  leaf_step i is false e leaf a = a

  leaves_at : (low : ℕ) (items : Items) → IsRisingFrom low items → AllByRecursion (λ i. test i ≡ true → IsLeaf u ts i.1) items → AllByRecursion (At items) (tickets (filter test items))
  leaves_at low [] r a = tt
  leaves_at low (i ∷ is) r a =
      let above = above_tested test i.0 is (all_above i.0 i.0 is (omega arith) r.1) in
      leaf_step i is (test i) refl a.0 (at_later i is (tickets (filter test is)) above (leaves_at i.0 is r.1 a.1))

weaker : {P Q : ℕ × Transaction → Type 0} → ((i : ℕ × Transaction) → P i → Q i) → (items : Items) → AllByRecursion P items → AllByRecursion Q items
weaker f [] a = tt
weaker f (i ∷ is) a = (f i a.0, weaker f is a.1)

-- ---- the step

module _ (accepts : Accepts) where
  -- the step of a sync that isn't refused, if the lost transactions and the untouched ones are all
  pub ready_adopted : (h : Holding) (ledger : LedgerState) (q : Prepared) → h.pool.changes < h.pool.limit → IsRising h.pool.items → AllPairs (λ a b. a ≢ b) (map id_of (transactions h.pool.items)) → IsChained h.pool → AreSigned accepts h.pool
      → AdoptsParted h.pool ledger q → Prepares accepts h (Sync ledger) q
  ready_adopted h ledger q change rising distinct chained signed adopts =
      let p : Pool = h.pool in
      let u = get p.ledger.utxo in
      let ts : List Transaction = transactions p.items in
      let lost : ℕ × Transaction → Bool = λ i. is_lost p.ledger ledger i.1 in
      let left : Items = filter (λ i. not (lost i)) p.items in
      let gone : List ℕ = adopts.parted.dropped in
      let is_gone : gone ≡ tickets (filter lost p.items) = adopts.are.dropped in
      let is : apart gone p.items ≡ left = ap (λ ns. apart ns p.items) is_gone ∙ apart_tested lost 0 p.items rising in
      let rise : AllPairs (λ a b. a < b) gone = subst (AllPairs (λ a b. a < b)) (sym is_gone) (tickets_rise 0 (filter lost p.items) (rising_filter lost 0 p.items rising)) in
      let each = recursion_from_All (λ i. lost i ≡ true → IsLeaf u ts i.1) p.items adopts.are.leaves in
      let leaves : All (IsLeafAt p) gone = subst (λ ns. All (IsLeafAt p) ns) (sym is_gone) (All-from_recursion (IsLeafAt p) (tickets (filter lost p.items)) (leaves_at u ts lost 0 p.items rising each)) in
      let chain : Chain accepts u p.ledger.tick (transactions left) =
      subst (λ l. Chain accepts u p.ledger.tick (transactions l)) is
      (all_out accepts u p.ledger.tick p.items gone rise leaves rising distinct (chain_signed accepts u p.ledger.tick ts chained signed)) in
      let so : AreSo accepts ts p.ledger ledger p.items = record {
        untouched = recursion_from_All (λ i. is_lost p.ledger ledger i.1 ≡ false → IsUntouched p.ledger ledger i.1) p.items adopts.are.untouched;
        ones = weaker {P = λ i. lost i ≡ true → IsLeaf u ts i.1} {Q = λ i. lost i ≡ true → All (λ j. IsOfOne u ts j.from) i.1.inputs} (λ i f e. (f e).inputs) p.items each;
        among = each_made ts p.items (λ r nobody. recursion_from_All (λ t. output_made t r ≡ None) ts nobody);
      } in
      let begin : Stands ts u (get ledger.utxo) u (get ledger.utxo) = record { same = λ r e. e; none = λ r e f. f; unmade = λ r e f. f } in
      let all = sorted accepts ts p.ledger ledger p.items u (get ledger.utxo) begin so chain in
      let kept : adopts.parted.kept ≡ tickets (keep accepts ledger p.items) = adopts.are.kept ∙ ap tickets (sym all.kept) in
      let yes : answer accepts p (Sync ledger) ≡ Ok (Synced adopts.parted.kept gone) =
      synced_as accepts p ledger adopts.parted.kept gone (within p.limit p.changes change) kept (is_gone ∙ sym all.dropped) in
      let leads : leads_to p q ≡ pool_upon p ledger left = ap (changed p) adopts.effect ∙ ap (pool_upon p ledger) is in
      record {
        command = adopts.command;
        reply = yes ∙ sym (ap Ok adopts.reply);
        leads = yes_next accepts p (Sync ledger) (Synced adopts.parted.kept gone) yes ∙ ap (pool_upon p ledger) all.kept ∙ sym leads;
        prepared = record {
          change = change;
          fits = subst (CanChange h) (sym adopts.effect) leaves;
          tells = leads ∙ sym (ap (λ c. told p c q.reply) adopts.command ∙ ap (told p (Sync ledger)) adopts.reply ∙ ap (pool_upon p ledger) is);
          accepts = accepts;
          reply = ap (answer accepts p) adopts.command ∙ yes ∙ sym (ap Ok adopts.reply);
        };
      }

-- the remaining transactions of the overlay have their inputs
pub lacking_fed : (was : Inside) (overlay : Overlay) (gone : List ℕ) → Lacks was.overlay (ticketed was.items) gone overlay → IsFed (get overlay.ledger.utxo) overlay.applied
lacking_fed was overlay gone lacks =
    subst (λ l. IsFed (get l.utxo) overlay.applied) (sym lacks.base)
    (subst (IsFed (get was.overlay.ledger.utxo)) (sym lacks.applied) (chain_fed all_accepted (get was.overlay.ledger.utxo) was.overlay.ledger.tick (transactions (apart gone (ticketed was.items))) lacks.chained))
