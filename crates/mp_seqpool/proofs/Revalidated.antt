-- What is kept of a list with one more item.
use Rattle.std.proofs.Common.{◌≡◌, ℕ, ◌<◌, Bool, true, false, not, cond, List, [], ◌∷◌, ◌++◌, All, refl, sym, ap, subst, ◌∙◌}
use Rattle.std.specs.FinMap.{get}
use Rattle.std.proofs.lemmas.List.Elements.{All-from_recursion, recursion_from_All, All-map, All-filter, filter-append}
use Rattle.mp_tx.specs.Transaction.{Transaction}
use Rattle.mp_tx.specs.Ledger.{LedgerState}
use Rattle.mp_utxo.specs.Apply.{after}
use Rattle.mp_rules.specs.Verifier.{Accepts}
use Rattle.mp_seqpool.specs.declared.kept.Kept.{Kept}
use Rattle.mp_seqpool.specs.Keep.{transactions, tickets, is_named, named, unnamed, is_valid, keep, dropped}
use Rattle.mp_seqpool.specs.Kept.{IsKeptOf}
use Rattle.mp_seqpool.specs.Inside.Judged.{AreBelow, Keeps, Drops, Passes, KeepsOrDrops, is_valid_upon, Handles}
use Rattle.mp_seqpool.proofs.KeptLast.{kept_last, dropped_last, all_kept, all_dropped}

abbrev Items : Type 0
Items = List (ℕ × Transaction)

tickets-last : (xs : Items) (i : ℕ × Transaction) → tickets (xs ++ i ∷ []) ≡ tickets xs ++ i.0 ∷ []
tickets-last [] i = refl
tickets-last (x ∷ xs) i = ap (λ l. x.0 ∷ l) (tickets-last xs i)

transactions-last : (xs : Items) (i : ℕ × Transaction) → transactions (xs ++ i ∷ []) ≡ transactions xs ++ i.1 ∷ []
transactions-last [] i = refl
transactions-last (x ∷ xs) i = ap (λ l. x.1 ∷ l) (transactions-last xs i)

append-none : {X : Type 0} (xs : List X) → xs ++ [] ≡ xs
append-none [] = refl
append-none (x ∷ xs) = ap (λ l. x ∷ l) (append-none xs)

-- one more item among those that are named, or among the others
named-last : (ids : List (List ℕ)) (xs : Items) (i : ℕ × Transaction) (b : Bool) → is_named ids i.1 ≡ b → named ids (xs ++ i ∷ []) ≡ named ids xs ++ cond b (i ∷ []) []
named-last ids xs i b h = filter-append (λ e. is_named ids e.1) xs (i ∷ []) ∙ ap (λ v. named ids xs ++ cond v (i ∷ []) []) h

unnamed-last : (ids : List (List ℕ)) (xs : Items) (i : ℕ × Transaction) (b : Bool) → is_named ids i.1 ≡ b → unnamed ids (xs ++ i ∷ []) ≡ unnamed ids xs ++ cond (not b) (i ∷ []) []
unnamed-last ids xs i b h = filter-append (λ e. not (is_named ids e.1)) xs (i ∷ []) ∙ ap (λ v. unnamed ids xs ++ cond (not v) (i ∷ []) []) h

module _ (accepts : Accepts) (ledger : LedgerState) (ids : List (List ℕ)) where
  passed : (xs : Items) (i : ℕ × Transaction) (old new : Kept) → is_named ids i.1 ≡ true → IsKeptOf accepts ledger xs ids old → Passes old i new → IsKeptOf accepts ledger (xs ++ i ∷ []) ids new
  passed xs i old new is k p =
      let others : unnamed ids xs ≡ unnamed ids (xs ++ i ∷ []) = sym (unnamed-last ids xs i true is ∙ append-none (unnamed ids xs)) in
      record {
        base = ap (λ o. o.ledger) p.overlay ∙ k.base;
        salt = ap (λ o. o.salt) p.overlay ∙ k.salt;
        applied = ap (λ o. o.applied) p.overlay ∙ k.applied ∙ ap (λ l. transactions (keep accepts ledger l)) others;
        under = ap (λ o. o.items) p.overlay ∙ k.under ∙ ap (keep accepts ledger) others;
        kept = p.kept ∙ k.kept ∙ ap (λ l. tickets (keep accepts ledger l)) others;
        named = p.named ∙ ap (λ l. l ++ i.0 ∷ []) k.named ∙ sym (tickets-last (named ids xs) i) ∙ ap tickets (sym (named-last ids xs i true is));
        dropped = p.dropped ∙ k.dropped ∙ ap (λ l. dropped accepts ledger l) others;
      }

  valid_there : (xs : Items) (t : Transaction) (old : Kept) (b : Bool) → IsKeptOf accepts ledger xs ids old → is_valid_upon accepts old t ≡ b
      → is_valid accepts (after (get ledger.utxo) (transactions (keep accepts ledger (unnamed ids xs)))) ledger.tick t ≡ b
  valid_there xs t old b k h =
      sym (ap (λ (l : LedgerState). is_valid accepts (after (get l.utxo) old.overlay.applied) l.tick t) k.base
      ∙ ap (λ ts. is_valid accepts (after (get ledger.utxo) ts) ledger.tick t) k.applied)
      ∙ h

  stayed : (xs : Items) (i : ℕ × Transaction) (old new : Kept) → is_named ids i.1 ≡ false → IsKeptOf accepts ledger xs ids old → is_valid_upon accepts old i.1 ≡ true → Keeps old i new → IsKeptOf accepts ledger (xs ++ i ∷ []) ids new
  stayed xs i old new is k valid p =
      let others : unnamed ids xs ++ i ∷ [] ≡ unnamed ids (xs ++ i ∷ []) = sym (unnamed-last ids xs i false is) in
      let there = valid_there xs i.1 old true k valid in
      let more : keep accepts ledger (unnamed ids xs) ++ i ∷ [] ≡ keep accepts ledger (unnamed ids (xs ++ i ∷ [])) =
      sym (kept_last accepts ledger.tick true (get ledger.utxo) (unnamed ids xs) i there) ∙ ap (λ l. keep accepts ledger l) others in
      record {
        base = p.base ∙ k.base;
        salt = p.salt ∙ k.salt;
        applied = p.applied ∙ ap (λ l. l ++ i.1 ∷ []) k.applied ∙ sym (transactions-last (keep accepts ledger (unnamed ids xs)) i) ∙ ap transactions more;
        under = p.items ∙ ap (λ l. l ++ i ∷ []) k.under ∙ more;
        kept = p.kept ∙ ap (λ l. l ++ i.0 ∷ []) k.kept ∙ sym (tickets-last (keep accepts ledger (unnamed ids xs)) i) ∙ ap tickets more;
        named = p.named ∙ k.named ∙ ap tickets (sym (named-last ids xs i false is ∙ append-none (named ids xs)));
        dropped = p.dropped ∙ k.dropped ∙ sym (dropped_last accepts ledger.tick true (get ledger.utxo) (unnamed ids xs) i there) ∙ ap (λ l. dropped accepts ledger l) others;
      }

  fell : (xs : Items) (i : ℕ × Transaction) (old new : Kept) → is_named ids i.1 ≡ false → IsKeptOf accepts ledger xs ids old → is_valid_upon accepts old i.1 ≡ false → Drops old i new → IsKeptOf accepts ledger (xs ++ i ∷ []) ids new
  fell xs i old new is k valid p =
      let others : unnamed ids xs ++ i ∷ [] ≡ unnamed ids (xs ++ i ∷ []) = sym (unnamed-last ids xs i false is) in
      let there = valid_there xs i.1 old false k valid in
      let same : keep accepts ledger (unnamed ids xs) ≡ keep accepts ledger (unnamed ids (xs ++ i ∷ [])) =
      sym (kept_last accepts ledger.tick false (get ledger.utxo) (unnamed ids xs) i there) ∙ ap (λ l. keep accepts ledger l) others in
      record {
        base = ap (λ o. o.ledger) p.overlay ∙ k.base;
        salt = ap (λ o. o.salt) p.overlay ∙ k.salt;
        applied = ap (λ o. o.applied) p.overlay ∙ k.applied ∙ ap transactions same;
        under = ap (λ o. o.items) p.overlay ∙ k.under ∙ same;
        kept = p.kept ∙ k.kept ∙ ap tickets same;
        named = p.named ∙ k.named ∙ ap tickets (sym (named-last ids xs i false is ∙ append-none (named ids xs)));
        dropped = p.dropped ∙ ap (λ l. l ++ i.0 ∷ []) k.dropped ∙ sym (dropped_last accepts ledger.tick false (get ledger.utxo) (unnamed ids xs) i there) ∙ ap (λ l. dropped accepts ledger l) others;
      }

  judged : (v : Bool) (xs : Items) (i : ℕ × Transaction) (old new : Kept) → is_named ids i.1 ≡ false → IsKeptOf accepts ledger xs ids old → is_valid_upon accepts old i.1 ≡ v → KeepsOrDrops v old i new → IsKeptOf accepts ledger (xs ++ i ∷ []) ids new
  judged true xs i old new is k e h = stayed xs i old new is k e h
  judged false xs i old new is k e h = fell xs i old new is k e h

  handled : (b : Bool) (xs : Items) (i : ℕ × Transaction) (old new : Kept) → is_named ids i.1 ≡ b → IsKeptOf accepts ledger xs ids old → Handles accepts b old i new → IsKeptOf accepts ledger (xs ++ i ∷ []) ids new
  handled true xs i old new is k h = passed xs i old new is k h
  handled false xs i old new is k h = judged (is_valid_upon accepts old i.1) xs i old new is k refl h

  -- an item that is handled after those before it
  pub one_more : (b : Bool) (xs : Items) (i : ℕ × Transaction) (old new : Kept) → b ≡ is_named ids i.1 → IsKeptOf accepts ledger xs ids old → Handles accepts b old i new → IsKeptOf accepts ledger (xs ++ i ∷ []) ids new
  one_more b xs i old new is k h = handled b xs i old new (sym is) k h

  -- if all items are below a ticket, so are all tickets that come from them
  pub below : (xs : Items) (ticket : ℕ) (k : Kept) → All (λ i. i.0 < ticket) xs → IsKeptOf accepts ledger xs ids k → AreBelow ticket k
  below xs ticket k a kept =
      let others : All (λ i. i.0 < ticket) (unnamed ids xs) = All-filter (λ i. not (is_named ids i.1)) (λ i. i.0 < ticket) xs a in
      let rest = recursion_from_All (λ i. i.0 < ticket) (unnamed ids xs) others in
      record {
        kept = subst (All (λ t. t < ticket)) (sym kept.kept)
            (All-map (λ t. t < ticket) (λ i. i.0) (keep accepts ledger (unnamed ids xs)) (All-from_recursion (λ i. i.0 < ticket) (keep accepts ledger (unnamed ids xs)) (all_kept accepts ledger.tick (λ i. i.0 < ticket) (get ledger.utxo) (unnamed ids xs) rest)));
        named = subst (All (λ t. t < ticket)) (sym kept.named)
            (All-map (λ t. t < ticket) (λ i. i.0) (named ids xs) (All-filter (λ i. is_named ids i.1) (λ i. i.0 < ticket) xs a));
        dropped = subst (All (λ t. t < ticket)) (sym kept.dropped)
            (All-from_recursion (λ t. t < ticket) (dropped accepts ledger (unnamed ids xs)) (all_dropped accepts ledger.tick (λ t. t < ticket) (get ledger.utxo) (unnamed ids xs) rest));
      }
