-- What a prepared step says of the transactions after it.
use Rattle.std.proofs.Common.{◌≡◌, ℕ, ◌+◌, Bool, cond, List, sym, ap, subst, ◌∙◌, arith}
use Rattle.std.specs.Prelude.{Ok, Err, nat_le}
use Rattle.std.specs.FinMap.{get}
use Rattle.std.proofs.lemmas.List.{same_from_push}
use Rattle.mp_tx.specs.Transaction.{Transaction}
use Rattle.mp_tx.specs.Ledger.{LedgerState}
use Rattle.mp_rules.specs.Verifier.{Accepts}
use Rattle.mp_rules.specs.Validity.{IsValid}
use Rattle.mp_rules.proofs.Valid.{valid}
use Rattle.mp_tickets.specs.Tickets.{IsRising}
use Rattle.mp_seqpool.specs.Keep.{transactions, unnamed, keep, dropped}
use Rattle.mp_seqpool.specs.declared.refusal.Refusal.TheVariants as refusals
use Rattle.mp_seqpool.specs.declared.command.Reply.{Reply}
use Rattle.mp_seqpool.specs.Command.{Command, Submit, Remove, Sync}
use Rattle.mp_seqpool.specs.Pool.{Pool}
use Rattle.mp_seqpool.specs.SlowPool.{unspent, answer, reply_removed, reply_synced, pool_with, pool_upon}
use Rattle.mp_seqpool.specs.Prepared.{told, apart, left_by}
use Rattle.mp_seqpool.specs.Inside.Chained.{all_accepted, IsChained}
use Rattle.mp_seqpool.proofs.Apart.{apart_named, apart_dropped, rising_unnamed}
use Rattle.mp_seqpool.proofs.Keeping.{chain-kept}
use Rattle.mp_seqpool.proofs.Chained.{valid_unsigned, chain_unsigned}
use Rattle.mp_seqpool.proofs.Histories.{not_refused, taken}

not_itself : (n : ℕ) → n + 1 ≡ n → ⊥
not_itself n e = omega arith

-- the last transaction is valid after all of the pool
pub next_valid : (accepts : Accepts) (p : Pool) (c : Command) (r : Reply) (t : Transaction) → pool_with p t ≡ told p c r → answer accepts p c ≡ Ok r → IsValid all_accepted (unspent p) p.ledger.tick t
next_valid accepts p (Submit s) r t tells says =
    let pushed = same_from_push p.items p.items (p.last + 1, t) (p.last + 1, s) (ap (λ (q : Pool). q.items) tells) in
    let same : t ≡ s = ap (λ (i : ℕ × Transaction). i.1) pushed.1 in
    subst (λ x. IsValid all_accepted (unspent p) p.ledger.tick x) (sym same)
    (valid_unsigned accepts (unspent p) p.ledger.tick s (valid accepts (unspent p) p.ledger.tick s (taken accepts p s r says).1))
next_valid accepts p (Remove ids) r t tells says = absurd (not_itself p.last (ap (λ (q : Pool). q.last) tells))
next_valid accepts p (Sync ledger) r t tells says = absurd (not_itself p.last (ap (λ (q : Pool). q.last) tells))

-- ---- what remains on a ledger state

module _ (accepts : Accepts) (p : Pool) (rising : IsRising p.items) where
  reply_is : (b : Bool) (r s : Reply) → cond b (Err refusals.HistoryFull) (Ok r) ≡ Ok s → r ≡ s
  reply_is b r s e = let says = not_refused b refusals.HistoryFull (Ok r) s e in Prim.cc

  removed_is : (ids : List (List ℕ)) (r : Reply) → answer accepts p (Remove ids) ≡ Ok r → reply_removed accepts ids p ≡ r
  unfolding answer
  removed_is ids r says = reply_is (nat_le p.limit p.changes) (reply_removed accepts ids p) r says

  synced_is : (ledger : LedgerState) (r : Reply) → answer accepts p (Sync ledger) ≡ Ok r → reply_synced accepts ledger p ≡ r
  unfolding answer
  synced_is ledger r says = reply_is (nat_le p.limit p.changes) (reply_synced accepts ledger p) r says

  left_removed : (ids : List (List ℕ)) → left_by (reply_removed accepts ids p) p.items ≡ keep accepts p.ledger (unnamed ids p.items)
  left_removed ids =
      ap (apart (dropped accepts p.ledger (unnamed ids p.items))) (apart_named 0 ids p.items rising)
      ∙ apart_dropped accepts (get p.ledger.utxo) p.ledger.tick 0 (unnamed ids p.items) (rising_unnamed 0 ids p.items rising)

  left_synced : (ledger : LedgerState) → left_by (reply_synced accepts ledger p) p.items ≡ keep accepts ledger p.items
  left_synced ledger = apart_dropped accepts (get ledger.utxo) ledger.tick 0 p.items rising

  chained_upon : (below ledger : LedgerState) (all : List (ℕ × Transaction)) (r s : Reply) → below ≡ ledger → s ≡ r → left_by s p.items ≡ keep accepts ledger all → IsChained (pool_upon p below (left_by r p.items))
  chained_upon below ledger all r s is same left =
      subst (λ l. IsChained (pool_upon p l (left_by r p.items))) (sym is)
      (subst (λ items. IsChained (pool_upon p ledger items)) (sym (ap (λ q. left_by q p.items) (sym same) ∙ left))
      (chain_unsigned accepts (get ledger.utxo) ledger.tick (transactions (keep accepts ledger all)) (chain-kept accepts (get ledger.utxo) ledger.tick all)))

  -- what the reply leaves is valid in order on the ledger state of the step
  pub left_chained : (c : Command) (r : Reply) (ledger : LedgerState) (items : List (ℕ × Transaction)) → pool_upon p ledger items ≡ told p c r → answer accepts p c ≡ Ok r → IsChained (pool_upon p ledger (left_by r p.items))
  left_chained (Submit t) r ledger items tells says = absurd (not_itself p.last (sym (ap (λ (q : Pool). q.last) tells)))
  left_chained (Remove ids) r ledger items tells says =
      chained_upon ledger p.ledger (unnamed ids p.items) r (reply_removed accepts ids p) (ap (λ (q : Pool). q.ledger) tells) (removed_is ids r says) (left_removed ids)
  left_chained (Sync other) r ledger items tells says =
      chained_upon ledger other p.items r (reply_synced accepts other p) (ap (λ (q : Pool). q.ledger) tells) (synced_is other r says) (left_synced other)

-- items that stay on a ledger state are those that the reply leaves
pub told_left : (p : Pool) (c : Command) (r : Reply) (ledger : LedgerState) (items : List (ℕ × Transaction)) → pool_upon p ledger items ≡ told p c r → items ≡ left_by r p.items
told_left p (Submit t) r ledger items tells = absurd (not_itself p.last (sym (ap (λ (q : Pool). q.last) tells)))
told_left p (Remove ids) r ledger items tells = ap (λ (q : Pool). q.items) tells
told_left p (Sync other) r ledger items tells = ap (λ (q : Pool). q.items) tells
