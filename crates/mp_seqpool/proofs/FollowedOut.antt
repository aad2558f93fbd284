-- A remove that takes out what is named and all its dependents.
use Rattle.std.proofs.Common.{◌≡◌, ℕ, ◌<◌, Bool, true, false, cond, ◌||◌, ◌&&◌, not, inl, inr, List, [], ◌∷◌, refl, sym, ap, subst, ◌∙◌, arith}
use Rattle.std.specs.Prelude.{None, Some, IsSome, nat_eq, All}
use Rattle.std.specs.List.{AllByRecursion, filter}
use Rattle.std.proofs.lemmas.Bool.{true≢false, false_from_ne_true, eq-eqb, ne_eqb, eqb-true, or_cases}
use Rattle.std.proofs.lemmas.List.Elements.{All-head, All-tail}
use Rattle.mp_tx.specs.declared.reference.OutRef.{OutRef}
use Rattle.mp_tx.specs.Transaction.{Transaction}
use Rattle.mp_utxo.specs.Apply.{Unspent, apply, output_made}
use Rattle.mp_rules.specs.Verifier.{Accepts}
use Rattle.mp_rules.specs.Validity.{IsValid, Chain}
use Rattle.mp_rules.specs.FirstFault.{first_fault}
use Rattle.mp_rules.proofs.Valid.{valid}
use Rattle.mp_tickets.specs.Tickets.{IsRisingFrom, has_ticket, item_at}
use Rattle.mp_seqpool.specs.Keep.{transactions, tickets, is_named, unnamed, is_valid, keep_upon, dropped_upon}
use Rattle.mp_seqpool.specs.Prepared.{apart}
use Rattle.mp_seqpool.specs.Inside.Followed.{beyond}
use Rattle.mp_seqpool.proofs.Apart.{all_above, not_among, above_tested}
use Rattle.mp_seqpool.proofs.Chained.{clear}
use Rattle.mp_seqpool.proofs.Dependents.{weaker}
use Rattle.mp_seqpool.proofs.Keeping.{no_fault}
use Rattle.mp_seqpool.proofs.LeafOut.{still_gone}

abbrev Items : Type 0
Items = List (ℕ × Transaction)

-- ---- tickets

pub at_ticket : (P : ℕ → Type 0) (ns : List ℕ) (n : ℕ) → All P ns → has_ticket ns n ≡ true → P n
at_ticket P [] n all has = absurd (true≢false (sym has))
at_ticket P (k ∷ ns) n all has = elim (or_cases (nat_eq k n) (has_ticket ns n) has) [
  | inl here ↦ subst P (eqb-true k n here) (All-head P k ns all)
  | inr later ↦ at_ticket P ns n (All-tail P k ns all) later
]

-- the item of its ticket
here_step : (i : ℕ × Transaction) (is : Items) → AllByRecursion (λ j. i.0 < j.0) is → AllByRecursion (λ j. item_at is j.0 ≡ Some j.1) is → AllByRecursion (λ j. item_at (i ∷ is) j.0 ≡ Some j.1) is
here_step i is above at = go is above at
  where
    go : (js : Items) → AllByRecursion (λ j. i.0 < j.0) js → AllByRecursion (λ j. item_at is j.0 ≡ Some j.1) js → AllByRecursion (λ j. item_at (i ∷ is) j.0 ≡ Some j.1) js
    go [] a b = tt
    go (j ∷ js) a b = let lt = a.0 in (ap (λ (c : Bool). cond c (Some i.1) (item_at is j.0)) (ne_eqb i.0 j.0 (λ e. omega arith)) ∙ b.0, go js a.1 b.1)

pub items_here : (low : ℕ) (items : Items) → IsRisingFrom low items → AllByRecursion (λ j. item_at items j.0 ≡ Some j.1) items
items_here low [] rising = tt
items_here low (i ∷ is) rising = (
  ap (λ (c : Bool). cond c (Some i.1) (item_at is i.0)) (eq-eqb i.0 i.0 refl),
  here_step i is (all_above i.0 i.0 is (omega arith) rising.1) (items_here i.0 is rising.1),
)

-- a ticket is among those of the items that pass a test exactly when its item passes it
module _ (test : ℕ × Transaction → Bool) where
  has_step : (b : Bool) (i : ℕ × Transaction) (fs is : Items) → AllByRecursion (λ j. i.0 < j.0) is → AllByRecursion (λ j. has_ticket (tickets fs) j.0 ≡ test j) is → AllByRecursion (λ j. has_ticket (tickets (cond b (i ∷ fs) fs)) j.0 ≡ test j) is
  has_step b i fs [] above has = tt
  has_step true i fs (j ∷ js) above has = let lt = above.0 in (ap (λ c. c || has_ticket (tickets fs) j.0) (ne_eqb i.0 j.0 (λ e. omega arith)) ∙ has.0, has_step true i fs js above.1 has.1)
  has_step false i fs (j ∷ js) above has = (has.0, has_step false i fs js above.1 has.1)

  has_first : (b : Bool) (i : ℕ × Transaction) (fs : Items) → AllByRecursion (λ t. i.0 < t) (tickets fs) → has_ticket (tickets (cond b (i ∷ fs) fs)) i.0 ≡ b
  has_first true i fs above = ap (λ c. c || has_ticket (tickets fs) i.0) (eq-eqb i.0 i.0 refl)
  has_first false i fs above = not_among i.0 (tickets fs) above

  pub has_tested : (low : ℕ) (items : Items) → IsRisingFrom low items → AllByRecursion (λ j. has_ticket (tickets (filter test items)) j.0 ≡ test j) items
  has_tested low [] rising = tt
  has_tested low (i ∷ is) rising =
      let above = all_above i.0 i.0 is (omega arith) rising.1 in (
        has_first (test i) i (filter test is) (above_tested test i.0 is above),
        has_step (test i) i (filter test is) is above (has_tested i.0 is rising.1),
      )

  -- it is the ticket of such an item
  pub has_from : (items : Items) (n : ℕ) → has_ticket (tickets (filter test items)) n ≡ true → (P : ℕ → Type 0) → AllByRecursion (λ i. test i ≡ true → P i.0) items → P n
  has_from [] n has P all = absurd (true≢false (sym has))
  has_from (i ∷ is) n has P all = elim (test i) as (λ (b : Bool). test i ≡ b → has_ticket (tickets (cond b (i ∷ filter test is) (filter test is))) n ≡ true → P n) [
    | true ↦ λ e h. elim (or_cases (nat_eq i.0 n) (has_ticket (tickets (filter test is)) n) h) [
      | inl first ↦ subst P (eqb-true i.0 n first) (all.0 e)
      | inr later ↦ has_from is n later P all.1
    ]
    | false ↦ λ e h. has_from is n h P all.1
  ] refl has

-- ---- what is taken out, in two parts

and_false : (b : Bool) → (b && false) ≡ false
and_false true = refl
and_false false = refl

and_not : (b a : Bool) → a ≡ false → (b && not a) ≡ b
and_not true a e = ap not e
and_not false a e = refl

has_beyond : (ns gone : List ℕ) (n : ℕ) → has_ticket (beyond ns gone) n ≡ (has_ticket gone n && not (has_ticket ns n))
has_beyond ns [] n = refl
has_beyond ns (g ∷ gs) n =
    let rest = has_beyond ns gs n in
    elim (nat_eq g n) as (λ (same : Bool). nat_eq g n ≡ same → has_ticket (cond (not (has_ticket ns g)) (g ∷ beyond ns gs) (beyond ns gs)) n ≡ ((same || has_ticket gs n) && not (has_ticket ns n))) [
      | true ↦ λ e. here (has_ticket ns g) (ap (has_ticket ns) (eqb-true g n e)) e rest
      | false ↦ λ e. there (has_ticket ns g) e rest
    ] refl
  where
    here : (a : Bool) → a ≡ has_ticket ns n → nat_eq g n ≡ true → has_ticket (beyond ns gs) n ≡ (has_ticket gs n && not (has_ticket ns n)) → has_ticket (cond (not a) (g ∷ beyond ns gs) (beyond ns gs)) n ≡ not (has_ticket ns n)
    here true is e rest = rest ∙ ap (λ b. has_ticket gs n && not b) (sym is) ∙ and_false (has_ticket gs n) ∙ ap not is
    here false is e rest = ap (λ b. b || has_ticket (beyond ns gs) n) e ∙ ap not is

    there : (a : Bool) → nat_eq g n ≡ false → has_ticket (beyond ns gs) n ≡ (has_ticket gs n && not (has_ticket ns n)) → has_ticket (cond (not a) (g ∷ beyond ns gs) (beyond ns gs)) n ≡ (has_ticket gs n && not (has_ticket ns n))
    there true e rest = rest
    there false e rest = ap (λ b. b || has_ticket (beyond ns gs) n) e ∙ rest

pub two_apart : (ns gone : List ℕ) → ((n : ℕ) → has_ticket ns n ≡ true → has_ticket gone n ≡ true) → (items : Items) → apart (beyond ns gone) (apart ns items) ≡ apart gone items
two_apart ns gone sub [] = refl
two_apart ns gone sub (i ∷ is) =
    let rest = two_apart ns gone sub is in
    elim (has_ticket ns i.0) as (λ (a : Bool). has_ticket ns i.0 ≡ a → apart (beyond ns gone) (cond (not a) (i ∷ apart ns is) (apart ns is)) ≡ apart gone (i ∷ is)) [
      | true ↦ λ h. rest ∙ sym (ap (λ b. cond (not b) (i ∷ apart gone is) (apart gone is)) (sub i.0 h))
      | false ↦ λ h.
          ap (λ b. cond (not b) (i ∷ apart (beyond ns gone) (apart ns is)) (apart (beyond ns gone) (apart ns is))) (has_beyond ns gone i.0 ∙ and_not (has_ticket gone i.0) (has_ticket ns i.0) h)
          ∙ ap (λ l. cond (not (has_ticket gone i.0)) (i ∷ l) l) rest
    ] refl

-- ---- what stays and what is dropped

module _ (accepts : Accepts) (tick : ℕ) (ids : List (List ℕ)) (gone : List ℕ) where
  abbrev goes : ℕ × Transaction → Bool
  goes i = has_ticket gone i.0

  abbrev falls_too : ℕ × Transaction → Bool
  falls_too i = goes i && not (is_named ids i.1)

  -- The transaction names an output that isn't there, and none of the items that stay makes it.
  pub record Falls (v : Unspent) (items : Items) (t : Transaction) : Type 0 where
    pub reference : OutRef
    pub names : (w : Unspent) → IsValid accepts w tick t → IsSome (w reference)
    pub none : v reference ≡ None
    pub unmade : AllByRecursion (λ j. goes j ≡ false → output_made j.1 reference ≡ None) items

  -- v is what can be spent after those that stay, and these items remain.
  pub record Stands (v : Unspent) (items : Items) : Type 0 where
    pub chain : Chain accepts v tick (transactions (apart gone items))
    pub named : AllByRecursion (λ i. is_named ids i.1 ≡ true → goes i ≡ true) items
    pub falls : AllByRecursion (λ i. goes i ≡ true → is_named ids i.1 ≡ false → Falls v items i.1) items

  abbrev AreKept : Unspent → Items → Type 0
  AreKept v items = (keep_upon accepts v tick (unnamed ids items) ≡ apart gone items) × (dropped_upon accepts v tick (unnamed ids items) ≡ tickets (filter falls_too items))

  module _ (v : Unspent) (i : ℕ × Transaction) (is : Items) where
    fallen : Falls v (i ∷ is) i.1 → is_valid accepts v tick i.1 ≡ false
    fallen f = false_from_ne_true (is_valid accepts v tick i.1) (λ h.
        true≢false (sym (subst IsSome f.none (f.names v (valid accepts v tick i.1 (no_fault (first_fault accepts v tick i.1) h))))))

    later : (t : Transaction) → Falls v (i ∷ is) t → Falls v is t
    later t f = record { reference = f.reference; names = f.names; none = f.none; unmade = f.unmade.1 }

    later_applied : goes i ≡ false → (t : Transaction) → Falls v (i ∷ is) t → Falls (apply i.1 v) is t
    later_applied e t f = record { reference = f.reference; names = f.names; none = still_gone i.1 v f.reference (f.unmade.0 e) f.none; unmade = f.unmade.1 }

    after_gone : goes i ≡ true → Stands v (i ∷ is) → Stands v is
    after_gone e s = record {
      chain = subst (λ b. Chain accepts v tick (transactions (cond (not b) (i ∷ apart gone is) (apart gone is)))) e s.chain;
      named = s.named.1;
      falls = weaker (λ j. goes j ≡ true → is_named ids j.1 ≡ false → Falls v (i ∷ is) j.1) (λ j. goes j ≡ true → is_named ids j.1 ≡ false → Falls v is j.1) (λ j f g n. later j.1 (f g n)) is s.falls.1;
    }

    staying : goes i ≡ false → Stands v (i ∷ is) → IsValid accepts v tick i.1 × Chain accepts (apply i.1 v) tick (transactions (apart gone is))
    staying e s = subst (λ b. Chain accepts v tick (transactions (cond (not b) (i ∷ apart gone is) (apart gone is)))) e s.chain

    after_staying : goes i ≡ false → Stands v (i ∷ is) → Stands (apply i.1 v) is
    after_staying e s = record {
      chain = (staying e s).1;
      named = s.named.1;
      falls = weaker (λ j. goes j ≡ true → is_named ids j.1 ≡ false → Falls v (i ∷ is) j.1) (λ j. goes j ≡ true → is_named ids j.1 ≡ false → Falls (apply i.1 v) is j.1) (λ j f g n. later_applied e j.1 (f g n)) is s.falls.1;
    }

    unnamed_is : (b : Bool) → is_named ids i.1 ≡ b → unnamed ids (i ∷ is) ≡ cond (not b) (i ∷ unnamed ids is) (unnamed ids is)
    unnamed_is b e = ap (λ c. cond (not c) (i ∷ unnamed ids is) (unnamed ids is)) e

    apart_is : (b : Bool) → goes i ≡ b → apart gone (i ∷ is) ≡ cond (not b) (i ∷ apart gone is) (apart gone is)
    apart_is b e = ap (λ c. cond (not c) (i ∷ apart gone is) (apart gone is)) e

    falls_is : (b : Bool) → falls_too i ≡ b → tickets (filter falls_too (i ∷ is)) ≡ tickets (cond b (i ∷ filter falls_too is) (filter falls_too is))
    falls_is b e = ap (λ c. tickets (cond c (i ∷ filter falls_too is) (filter falls_too is))) e

    with_named : is_named ids i.1 ≡ true → goes i ≡ true → AreKept v is → AreKept v (i ∷ is)
    with_named n g rest = (
      ap (keep_upon accepts v tick) (unnamed_is true n) ∙ rest.0 ∙ sym (apart_is true g),
      ap (dropped_upon accepts v tick) (unnamed_is true n) ∙ rest.1 ∙ sym (falls_is false (ap (λ b. b && not (is_named ids i.1)) g ∙ ap not n)),
    )

    with_fallen : is_named ids i.1 ≡ false → goes i ≡ true → is_valid accepts v tick i.1 ≡ false → AreKept v is → AreKept v (i ∷ is)
    with_fallen n g bad rest = (
      ap (keep_upon accepts v tick) (unnamed_is false n)
          ∙ ap (λ b. cond b (i ∷ keep_upon accepts (apply i.1 v) tick (unnamed ids is)) (keep_upon accepts v tick (unnamed ids is))) bad ∙ rest.0 ∙ sym (apart_is true g),
      ap (dropped_upon accepts v tick) (unnamed_is false n)
          ∙ ap (λ b. cond b (dropped_upon accepts (apply i.1 v) tick (unnamed ids is)) (i.0 ∷ dropped_upon accepts v tick (unnamed ids is))) bad ∙ ap (λ l. i.0 ∷ l) rest.1
          ∙ sym (falls_is true (ap (λ b. b && not (is_named ids i.1)) g ∙ ap not n)),
    )

    with_staying : is_named ids i.1 ≡ false → goes i ≡ false → is_valid accepts v tick i.1 ≡ true → AreKept (apply i.1 v) is → AreKept v (i ∷ is)
    with_staying n g good rest = (
      ap (keep_upon accepts v tick) (unnamed_is false n)
          ∙ ap (λ b. cond b (i ∷ keep_upon accepts (apply i.1 v) tick (unnamed ids is)) (keep_upon accepts v tick (unnamed ids is))) good ∙ ap (λ l. i ∷ l) rest.0 ∙ sym (apart_is false g),
      ap (dropped_upon accepts v tick) (unnamed_is false n)
          ∙ ap (λ b. cond b (dropped_upon accepts (apply i.1 v) tick (unnamed ids is)) (i.0 ∷ dropped_upon accepts v tick (unnamed ids is))) good ∙ rest.1
          ∙ sym (falls_is false (ap (λ b. b && not (is_named ids i.1)) g)),
    )

  pub follow : (items : Items) (v : Unspent) → Stands v items → AreKept v items
  follow [] v s = (refl, refl)
  follow (i ∷ is) v s = elim (goes i) as (λ (g : Bool). goes i ≡ g → AreKept v (i ∷ is)) [
    | true ↦ λ g. elim (is_named ids i.1) as (λ (n : Bool). is_named ids i.1 ≡ n → AreKept v (i ∷ is)) [
      | true ↦ λ n. with_named v i is n g (follow is v (after_gone v i is g s))
      | false ↦ λ n. with_fallen v i is n g (fallen v i is (s.falls.0 g n)) (follow is v (after_gone v i is g s))
    ] refl
    | false ↦ λ g.
        let n : is_named ids i.1 ≡ false = false_from_ne_true (is_named ids i.1) (λ e. true≢false (sym (s.named.0 e) ∙ g)) in
        with_staying v i is n g (clear accepts v tick i.1 (staying v i is g s).0) (follow is (apply i.1 v) (after_staying v i is g s))
  ] refl
