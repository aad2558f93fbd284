-- The pool laws hold for every history.
use Rattle.std.proofs.Common.{◌≡◌, ◌≢◌, ℕ, zero, suc, ◌+◌, ◌-◌, ◌^◌, ◌<◌, ◌≤◌, Bool, true, false, cond, List, [], ◌∷◌, ◌++◌, take, drop, refl, sym, ap, subst, ◌∙◌, arith}
use Rattle.std.specs.Prelude.{Option, None, Some, Result, Ok, Err, is_ok, map, All, AllPairs, Contains, nat_le}
use Rattle.std.specs.List.Sorted.{IsStrictlyIncreasing}
use Rattle.std.specs.FinMap.{get}
use Rattle.std.proofs.lemmas.List.{map-append, get_or_default, take-append-drop}
use Rattle.std.proofs.lemmas.List.Elements.{All-push}
use Rattle.std.proofs.lemmas.List.Quantifiers.{all_pairs_push}
use Rattle.std.proofs.lemmas.Grind.{common_steps}
use Rattle.mp_tx.specs.Transaction.{Transaction}
use Rattle.mp_tx.specs.Spelling.{id_of}
use Rattle.mp_tx.specs.Ledger.{LedgerState}
use Rattle.mp_rules.specs.declared.invalid.Invalid.{Invalid}
use Rattle.mp_rules.specs.Verifier.{Accepts}
use Rattle.mp_rules.specs.Validity.{Chain}
use Rattle.mp_rules.specs.FirstFault.{first_fault}
use Rattle.mp_rules.proofs.Valid.{valid}
use Rattle.mp_seqpool.specs.Keep.{transactions, tickets, unnamed, keep}
use Rattle.mp_seqpool.specs.declared.refusal.Refusal.{Refusal}
use Rattle.mp_seqpool.specs.declared.refusal.Refusal.TheVariants as refusals
use Rattle.mp_seqpool.specs.declared.command.Reply.{Reply}
use Rattle.mp_seqpool.specs.declared.command.Reply.TheVariants.{Accepted, Removed, Synced}
use Rattle.mp_seqpool.specs.Command.{Command, Submit, Remove, Sync}
use Rattle.mp_seqpool.specs.Pool.{Pool}
use Rattle.mp_seqpool.specs.Config.{renewed}
use Rattle.mp_seqpool.specs.SlowPool.{AreSigned, IsRefused, empty_pool, unspent, ticket_of, answer_rules, answer_new, answer, done, pool_with, pool_upon, next, pool_after}
use Rattle.mp_seqpool.specs.PoolLaws.{IsLawful, Lasts, GivesNext, ObeysLaws}
use Rattle.mp_seqpool.proofs.Distinct.{absent}
use Rattle.mp_seqpool.proofs.Keeping.{IsOrderly, orderly-of, rising-of, above_zero-of, given-of, distinct-of, orderly-unnamed, All-unnamed, All-kept, orderly-kept, chain-push, chain-kept, signed-chain}

-- ---- numbers, lists and tests

pub not_refused : {A E : Type 0} (b : Bool) (e : E) (r : Result A E) (x : A) → cond b (Err e) r ≡ Ok x → r ≡ Ok x
not_refused true e r x h = Prim.cc
not_refused false e r x h = h

rising-append : (ks : List ℕ) (n : ℕ) → IsStrictlyIncreasing ks → All (λ k. k < n) ks → IsStrictlyIncreasing (ks ++ n ∷ [])
rising-append ks n rise below = λ k lt. Prim.grind (arith, common_steps)

below_next : (a b : ℕ) → a ≤ b → a < b + 1
below_next a b le = omega arith

itself : (a : ℕ) → a ≤ a
itself a = omega arith

over_zero : (a : ℕ) → 0 < a + 1
over_zero a = omega arith

higher : (a b : ℕ) → a ≤ b → a ≤ b + 1
higher a b le = omega arith

too_late : (a b : ℕ) → a ≤ b → b + 1 ≤ a → ⊥
too_late a b le ge = omega arith

take-within : (m n : ℕ) (cs : List Command) → m ≤ n → take m (take n cs) ≡ take m cs
take-within zero n cs le = refl
take-within (suc m) zero cs le = absurd (omega arith)
take-within (suc m) (suc n) [] le = refl
take-within (suc m) (suc n) (c ∷ cs) le = ap (λ r. c ∷ r) (take-within m n cs (omega arith))

-- ---- states, whatever the verifier accepts

Follows : Pool → Pool → Type 0
Follows p q = (p.last ≤ q.last) × All (λ i. i.0 ≤ p.last → Contains p.items i) q.items

follows_itself : (p : Pool) → Follows p p
unfolding Follows
follows_itself p = (itself p.last, λ k d lt le. (k, lt, get_or_default p.items k _ d lt))

by_rules : (p : Pool) (t : Transaction) (o : Option Invalid) (r : Reply) → answer_rules p t o ≡ Ok r → (o ≡ None) × (r ≡ Accepted (p.last + 1))
by_rules p t None r h = (refl, Prim.cc)
by_rules p t (Some f) r h = Prim.cc

abbrev ticket_in : Reply → ℕ
ticket_in (Accepted k) = k
ticket_in (Removed named dropped) = 0
ticket_in (Synced kept dropped) = 0

module _ (accepts : Accepts) where
  -- ---- what an accepted submit says

  abbrev IsClear : Pool → Transaction → Type 0
  IsClear p t = first_fault accepts (unspent p) p.ledger.tick t ≡ None

  new : (p : Pool) (t : Transaction) (o : Option ℕ) (r : Reply) → answer_new accepts p t o ≡ Ok r → (o ≡ None) × IsClear p t × (r ≡ Accepted (p.last + 1))
  new p t None r h = let k = by_rules p t _ r (not_refused _ _ _ r h) in (refl, k.0, k.1)
  new p t (Some k) r h = Prim.cc

  pub taken : (p : Pool) (t : Transaction) (r : Reply) → answer accepts p (Submit t) ≡ Ok r → (ticket_of (id_of t) p.items ≡ None) × IsClear p t × (r ≡ Accepted (p.last + 1))
  unfolding answer
  taken p t r h = new p t _ r (not_refused (nat_le (2 ^ 64 - 1) p.last) refusals.TicketsSpent _ r (not_refused (nat_le p.limit p.changes) refusals.HistoryFull _ r h))

  not_removed : (p : Pool) (ids : List (List ℕ)) (k : ℕ) → answer accepts p (Remove ids) ≡ Ok (Accepted k) → ⊥
  unfolding answer
  not_removed p ids k h = let e = not_refused (nat_le p.limit p.changes) refusals.HistoryFull _ (Accepted k) h in Prim.cc

  not_synced : (p : Pool) (ledger : LedgerState) (k : ℕ) → answer accepts p (Sync ledger) ≡ Ok (Accepted k) → ⊥
  unfolding answer
  not_synced p ledger k h = let e = not_refused (nat_le p.limit p.changes) refusals.HistoryFull _ (Accepted k) h in Prim.cc

  -- ---- each part of the law after one more transaction

  lawful-accepted : (p : Pool) (t : Transaction) (r : Reply) → IsLawful accepts p → answer accepts p (Submit t) ≡ Ok r → IsLawful accepts (pool_with p t)
  lawful-accepted p t r law h =
      let is = taken p t r h in
      let ids : map id_of (transactions (p.items ++ (p.last + 1, t) ∷ [])) ≡ map id_of (transactions p.items) ++ id_of t ∷ [] =
      ap (map id_of) (map-append (λ (i : ℕ × Transaction). i.1) p.items ((p.last + 1, t) ∷ [])) ∙ map-append id_of (transactions p.items) (t ∷ []) in
      record {
        chained = subst (Chain accepts (get p.ledger.utxo) p.ledger.tick) (sym (map-append (λ (i : ℕ × Transaction). i.1) p.items ((p.last + 1, t) ∷ [])))
            (chain-push accepts (get p.ledger.utxo) p.ledger.tick (transactions p.items) t law.chained (valid accepts (unspent p) p.ledger.tick t is.1));
        rising = subst IsStrictlyIncreasing (sym (map-append (λ (i : ℕ × Transaction). i.0) p.items ((p.last + 1, t) ∷ [])))
            (rising-append (tickets p.items) (p.last + 1) law.rising (λ k d lt. below_next _ p.last (law.given k d lt)));
        above_zero = subst (All (λ k. 0 < k)) (sym (map-append (λ (i : ℕ × Transaction). i.0) p.items ((p.last + 1, t) ∷ [])))
            (All-push (λ k. 0 < k) (tickets p.items) (p.last + 1) law.above_zero (over_zero p.last));
        given = subst (All (λ k. k ≤ p.last + 1)) (sym (map-append (λ (i : ℕ × Transaction). i.0) p.items ((p.last + 1, t) ∷ [])))
            (All-push (λ k. k ≤ p.last + 1) (tickets p.items) (p.last + 1) (λ k d lt. higher _ p.last (law.given k d lt)) (itself (p.last + 1)));
        distinct = subst (AllPairs (λ a b. a ≢ b)) (sym ids)
            (all_pairs_push (λ a b. a ≢ b) (map id_of (transactions p.items)) (id_of t) law.distinct (absent (id_of t) p.items is.0));
      }

  -- ---- the law on another ledger state

  orderly : (p : Pool) → IsLawful accepts p → IsOrderly p.last p.items
  orderly p law = orderly-of p.last p.items law.rising law.above_zero law.given law.distinct

  -- what is kept of orderly items on a ledger state
  lawful-upon : (p : Pool) (ledger : LedgerState) (items : List (ℕ × Transaction)) → IsOrderly p.last items → IsLawful accepts (pool_upon p ledger (keep accepts ledger items))
  lawful-upon p ledger items is =
      let kept = orderly-kept accepts p.last (get ledger.utxo) ledger.tick items is in
      record {
        chained = chain-kept accepts (get ledger.utxo) ledger.tick items;
        rising = rising-of p.last (keep accepts ledger items) kept;
        above_zero = above_zero-of p.last (keep accepts ledger items) kept;
        given = given-of p.last (keep accepts ledger items) kept;
        distinct = distinct-of p.last (keep accepts ledger items) kept;
      }

  lawful-done : (p : Pool) (c : Command) (r : Reply) → IsLawful accepts p → answer accepts p c ≡ Ok r → IsLawful accepts (done accepts p c)
  lawful-done p (Submit t) r law e = lawful-accepted p t r law e
  lawful-done p (Remove ids) r law e = lawful-upon p p.ledger (unnamed ids p.items) (orderly-unnamed p.last ids p.items (orderly p law))
  lawful-done p (Sync ledger) r law e = lawful-upon p ledger p.items (orderly p law)

  -- ---- the laws along a history

  unfold_next : (p : Pool) (c : Command) → next accepts p c ≡ cond (is_ok (answer accepts p c)) (done accepts p c) p
  unfolding next
  unfold_next p c = refl

  next_is : (p : Pool) (c : Command) (a : Result Reply Refusal) → answer accepts p c ≡ a → next accepts p c ≡ cond (is_ok a) (done accepts p c) p
  next_is p c a e = unfold_next p c ∙ ap (λ b. cond (is_ok b) (done accepts p c) p) e

  -- a fact of a state that refusals and executed commands preserve
  kept : (P : Pool → Type 0) (p : Pool) (c : Command) (a : Result Reply Refusal) → answer accepts p c ≡ a → P p → ((r : Reply) → answer accepts p c ≡ Ok r → P (done accepts p c)) → P (next accepts p c)
  kept P p c (Ok r) e old new = subst P (sym (next_is p c (Ok r) e)) (new r e)
  kept P p c (Err f) e old new = subst P (sym (next_is p c (Err f) e)) old

  pub lawful-next : (p : Pool) (c : Command) → IsLawful accepts p → IsLawful accepts (next accepts p c)
  lawful-next p c law = kept (IsLawful accepts) p c (answer accepts p c) refl law (λ r e. lawful-done p c r law e)

  pub lawful-after : (p : Pool) (cs : List Command) → IsLawful accepts p → IsLawful accepts (pool_after accepts p cs)
  lawful-after p [] law = law
  lawful-after p (c ∷ cs) law = lawful-after (next accepts p c) cs (lawful-next p c law)

  follows-done : (p q : Pool) (c : Command) → Follows p q → Follows p (done accepts q c)
  unfolding Follows
  follows-done p q (Submit t) f = (higher p.last q.last f.0, All-push (λ i. i.0 ≤ p.last → Contains p.items i) q.items (q.last + 1, t) f.1 (λ le. absurd (too_late p.last q.last f.0 le)))
  follows-done p q (Remove ids) f =
      (f.0, All-kept accepts (λ i. i.0 ≤ p.last → Contains p.items i) (get q.ledger.utxo) q.ledger.tick (unnamed ids q.items) (All-unnamed (λ i. i.0 ≤ p.last → Contains p.items i) ids q.items f.1))
  follows-done p q (Sync ledger) f = (f.0, All-kept accepts (λ i. i.0 ≤ p.last → Contains p.items i) (get ledger.utxo) ledger.tick q.items f.1)

  follows-next : (p q : Pool) (c : Command) → Follows p q → Follows p (next accepts q c)
  follows-next p q c f = kept (Follows p) q c (answer accepts q c) refl f (λ r e. follows-done p q c f)

  follows-after : (p q : Pool) (cs : List Command) → Follows p q → Follows p (pool_after accepts q cs)
  follows-after p q [] f = f
  follows-after p q (c ∷ cs) f = follows-after p (next accepts q c) cs (follows-next p q c f)

  pool_after-append : (p : Pool) (xs ys : List Command) → pool_after accepts p (xs ++ ys) ≡ pool_after accepts (pool_after accepts p xs) ys
  pool_after-append p [] ys = refl
  pool_after-append p (x ∷ xs) ys = pool_after-append (next accepts p x) xs ys

  lasting : (p : Pool) (cs : List Command) (m n : ℕ) → m ≤ n → Lasts (pool_after accepts p (take m cs)) (pool_after accepts p (take n cs))
  unfolding Follows
  lasting p cs m n le =
      let q = pool_after accepts p (take m cs) in
      let f = follows-after q q (drop m (take n cs)) (follows_itself q) in
      subst (Lasts q) (sym (ap (pool_after accepts p) (sym (take-append-drop m (take n cs)) ∙ ap (λ r. r ++ drop m (take n cs)) (take-within m n cs le)) ∙ pool_after-append p (take m cs) (drop m (take n cs)))) (record { last = f.0; kept = f.1 })

  -- only a submit gives a ticket
  gives_next : (p : Pool) (c : Command) → GivesNext accepts p c
  gives_next p (Submit t) k e =
      let is : k ≡ p.last + 1 = ap ticket_in (taken p t (Accepted k) e).2 in
      (is, ap (λ (q : Pool). q.last) (next_is p (Submit t) (Ok (Accepted k)) e) ∙ sym is)
  gives_next p (Remove ids) k e = absurd (not_removed p ids k e)
  gives_next p (Sync ledger) k e = absurd (not_synced p ledger k e)

  pub obeys : (p : Pool) (cs : List Command) → IsLawful accepts p → ObeysLaws accepts p cs
  obeys p cs law = record {
    lawful = λ n. lawful-after p (take n cs) law;
    lasting = lasting p cs;
    next_ticket = λ n c. gives_next (pool_after accepts p (take n cs)) c;
  }

  pub lawful-empty : (limit last : ℕ) (ledger : LedgerState) → IsLawful accepts (empty_pool limit last ledger)
  lawful-empty limit last ledger = record { chained = tt; rising = λ k lt. absurd (omega arith); above_zero = λ k d lt. absurd (omega arith); given = λ k d lt. absurd (omega arith); distinct = λ i j d ij lt. absurd (omega arith) }

  -- a refusal other than an allocation failure is the reference pool's
  pub told : (p : Pool) (c : Command) (f : Refusal) → IsRefused accepts p c f → f ≢ refusals.NoMemory → answer accepts p c ≡ Err f
  told p c refusals.NoMemory h is = absurd (is refl)
  told p c _ h is = h

  -- a refusal changes nothing
  pub next-refused : (p : Pool) (c : Command) (f : Refusal) → answer accepts p c ≡ Err f → next accepts p c ≡ p
  next-refused p c f e = next_is p c (Err f) e

  -- every history from an opening without transactions
  pub obeys-empty : (limit last : ℕ) (ledger : LedgerState) (cs : List Command) → ObeysLaws accepts (empty_pool limit last ledger) cs
  obeys-empty limit last ledger cs = obeys (empty_pool limit last ledger) cs (lawful-empty limit last ledger)

  -- all signatures in a lawful pool are accepted
  pub signed : (p : Pool) → IsLawful accepts p → AreSigned accepts p
  signed p law = signed-chain accepts (get p.ledger.utxo) p.ledger.tick (transactions p.items) law.chained

  -- a lawful pool may open again with its content
  pub lawful-renewed : (limit : ℕ) (p : Pool) → IsLawful accepts p → IsLawful accepts (renewed limit p)
  lawful-renewed limit p law = record { chained = law.chained; rising = law.rising; above_zero = law.above_zero; given = law.given; distinct = law.distinct }
