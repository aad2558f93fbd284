-- What is kept of items, with one more that is tried.
use Rattle.std.proofs.Common.{◌≡◌, ℕ, ◌+◌, ◌≤◌, Bool, true, false, if◌then◌else◌, List, [], ◌∷◌, ◌++◌, map, refl, sym, ap, subst, ◌∙◌, arith}
use Rattle.std.specs.Prelude.{sum_by, Option, Some, All}
use Rattle.std.specs.Borrow.{Bor}
use Rattle.std.specs.FinMap.{get}
use Rattle.std.specs.Iterator.{Yields}
use Rattle.std.specs.Map.Iter.{TakesFirst}
use Rattle.std.proofs.lemmas.List.{map-append}
use Rattle.std.proofs.lemmas.List.Elements.{All-nil, All-cons, All-head, All-tail}
use Rattle.std.proofs.lemmas.List.Sums.{sum_by-append, sum_by-cons}
use Rattle.std.proofs.lemmas.Map.Iter.{rest_more, rest_so_far}
use Rattle.mp_tx.specs.Transaction.{Transaction}
use Rattle.mp_tx.specs.Spelling.{size_of}
use Rattle.mp_tx.specs.Ledger.{LedgerState}
use Rattle.mp_utxo.specs.Apply.{Unspent, apply, after}
use Rattle.mp_rules.specs.Verifier.{Accepts}
use Rattle.mp_rules.specs.Checked.{IsSigned}
use Rattle.mp_seqpool.specs.Keep.{transactions, is_valid, keep_upon, keep, bytes_of}
use Rattle.mp_seqpool.proofs.KeptLast.{kept_last}
use Rattle.mp_versions.proofs.ByteSums.{sum-last}
use Rattle.mp_seqpool.specs.declared.item.Item.{Item}
use Rattle.mp_seqpool.specs.Item.{shown}
use Rattle.mp_versions.specs.declared.kept_items.Keeping.{Keeping}
use Rattle.mp_versions.specs.Inside.KeptItems.{Keeps, KeepsOrStays, Tries, HasTried}

abbrev Items : Type 0
Items = List (ℕ × Transaction)

transactions-last : (xs : Items) (i : ℕ × Transaction) → transactions (xs ++ i ∷ []) ≡ transactions xs ++ i.1 ∷ []
transactions-last xs i = map-append (λ e. e.1) xs (i ∷ [])

bytes-append : (xs ys : Items) → bytes_of (xs ++ ys) ≡ bytes_of xs + bytes_of ys
bytes-append xs ys = ap (sum_by size_of) (map-append (λ e. e.1) xs ys) ∙ sum_by-append size_of (transactions xs) (transactions ys)

bytes-cons : (i : ℕ × Transaction) (is : Items) → bytes_of (i ∷ is) ≡ size_of i.1 + bytes_of is
bytes-cons i is = sum_by-cons size_of i.1 (transactions is)

-- the items visited before, the current one and the remaining ones are all
turn : (all s t u : Items) (xs : List (Bor Item)) (r : Option (Bor Item)) (x : Bor Item) → s ≡ all → Yields (TakesFirst shown) s xs t → r ≡ Some x → TakesFirst shown t r u → all ≡ map shown xs ++ shown x ∷ u
turn all s t u xs r x start y is step = sym start ∙ rest_so_far shown xs s t y ∙ ap (λ l. map shown xs ++ l) (rest_more shown t u r x is step)

-- one more was visited
pub shown-last : (xs : List (Bor Item)) (x : Bor Item) → map shown (xs ++ x ∷ []) ≡ map shown xs ++ shown x ∷ []
shown-last xs x = map-append shown xs (x ∷ [])

module _ (accepts : Accepts) where
  -- all signatures of each item are accepted
  pub each_signed : (items : Items) → All (IsSigned accepts) (transactions items) → All (λ (i : ℕ × Transaction). IsSigned accepts i.1) items
  each_signed [] s = All-nil (λ (i : ℕ × Transaction). IsSigned accepts i.1)
  each_signed (i ∷ is) s =
      All-cons (λ (e : ℕ × Transaction). IsSigned accepts e.1) i is (All-head (IsSigned accepts) i.1 (transactions is) s)
      (each_signed is (All-tail (IsSigned accepts) i.1 (transactions is) s))

  kept_less_step : (v : Bool) (n : ℕ) (i : ℕ × Transaction) (xs ys : Items) → bytes_of xs ≤ n → bytes_of ys ≤ n → bytes_of (if v then i ∷ xs else ys) ≤ size_of i.1 + n
  kept_less_step true n i xs ys a b = let sum = bytes-cons i xs in omega arith
  kept_less_step false n i xs ys a b = omega arith

  -- what is kept has at most as many bytes as all
  kept_less : (tick : ℕ) (u : Unspent) (xs : Items) → bytes_of (keep_upon accepts u tick xs) ≤ bytes_of xs
  kept_less tick u [] = omega arith
  kept_less tick u (i ∷ is) =
      subst (λ n. bytes_of (keep_upon accepts u tick (i ∷ is)) ≤ n) (sym (bytes-cons i is))
      (kept_less_step (is_valid accepts u tick i.1) (bytes_of is) i (keep_upon accepts (apply i.1 u) tick is) (keep_upon accepts u tick is) (kept_less tick (apply i.1 u) is) (kept_less tick u is))

  module _ (ledger : LedgerState) where
    -- there is room for the bytes of the next item
    room : (xs rest : Items) (i : ℕ × Transaction) (t : Keeping) (most : ℕ) → bytes_of (xs ++ i ∷ rest) ≤ most → HasTried accepts ledger xs t → t.bytes + size_of i.1 ≤ most
    room xs rest i t most h is =
        let all : bytes_of (xs ++ i ∷ rest) ≡ bytes_of xs + (size_of i.1 + bytes_of rest) = bytes-append xs (i ∷ rest) ∙ ap (λ n. bytes_of xs + n) (bytes-cons i rest) in
        let less : bytes_of (keep accepts ledger xs) ≤ bytes_of xs = kept_less ledger.tick (get ledger.utxo) xs in
        let size : t.bytes ≡ bytes_of (keep accepts ledger xs) = is.size in
        omega arith

    pub room_in_turn : (all s t u : Items) (xs : List (Bor Item)) (r : Option (Bor Item)) (x : Bor Item) (k : Keeping) (most : ℕ) → s ≡ all → Yields (TakesFirst shown) s xs t → r ≡ Some x → TakesFirst shown t r u
        → bytes_of all ≤ most → HasTried accepts ledger (map shown xs) k → k.bytes + size_of (shown x).1 ≤ most
    room_in_turn all s t u xs r x k most start y is step h tried = room (map shown xs) u (shown x) k most (subst (λ l. bytes_of l ≤ most) (turn all s t u xs r x start y is step) h) tried

    valid_there : (xs : Items) (t : Transaction) (old : Keeping) (b : Bool) → HasTried accepts ledger xs old
        → is_valid accepts (after (get old.overlay.ledger.utxo) old.overlay.applied) old.overlay.ledger.tick t ≡ b
        → is_valid accepts (after (get ledger.utxo) (transactions (keep accepts ledger xs))) ledger.tick t ≡ b
    valid_there xs t old b k h =
        sym (ap (λ (l : LedgerState). is_valid accepts (after (get l.utxo) old.overlay.applied) l.tick t) k.base
        ∙ ap (λ ts. is_valid accepts (after (get ledger.utxo) ts) ledger.tick t) k.applied)
        ∙ h

    stayed : (xs : Items) (i : ℕ × Transaction) (old new : Keeping) → keep accepts ledger (xs ++ i ∷ []) ≡ keep accepts ledger xs ++ i ∷ [] → HasTried accepts ledger xs old → Keeps old i new → HasTried accepts ledger (xs ++ i ∷ []) new
    stayed xs i old new more k p =
        let kept : Items = keep accepts ledger xs in
        record {
          base = p.base ∙ k.base;
          applied = p.applied ∙ ap (λ l. l ++ i.1 ∷ []) k.applied ∙ sym (transactions-last kept i) ∙ ap transactions (sym more);
          kept = p.kept ∙ ap (λ l. l ++ i ∷ []) k.kept ∙ sym more;
          size = p.size ∙ ap (λ n. n + size_of i.1) k.size ∙ sym (sum-last kept i) ∙ ap bytes_of (sym more);
        }

    fell : (xs : Items) (i : ℕ × Transaction) (old new : Keeping) → keep accepts ledger (xs ++ i ∷ []) ≡ keep accepts ledger xs → HasTried accepts ledger xs old → new ≡ old → HasTried accepts ledger (xs ++ i ∷ []) new
    fell xs i old new same k e = subst (HasTried accepts ledger (xs ++ i ∷ [])) (sym e) (record {
      base = k.base;
      applied = k.applied ∙ ap transactions (sym same);
      kept = k.kept ∙ sym same;
      size = k.size ∙ ap bytes_of (sym same);
    })

    tried : (v : Bool) (xs : Items) (i : ℕ × Transaction) (old new : Keeping) → HasTried accepts ledger xs old
        → is_valid accepts (after (get old.overlay.ledger.utxo) old.overlay.applied) old.overlay.ledger.tick i.1 ≡ v
        → KeepsOrStays v old i new → HasTried accepts ledger (xs ++ i ∷ []) new
    tried true xs i old new k e h = stayed xs i old new (kept_last accepts ledger.tick true (get ledger.utxo) xs i (valid_there xs i.1 old true k e)) k h
    tried false xs i old new k e h = fell xs i old new (kept_last accepts ledger.tick false (get ledger.utxo) xs i (valid_there xs i.1 old false k e)) k h

    -- an item that is tried after those before it
    pub one_more : (xs : Items) (i : ℕ × Transaction) (old new : Keeping) → HasTried accepts ledger xs old → Tries accepts old i new → HasTried accepts ledger (xs ++ i ∷ []) new
    one_more xs i old new k h = tried (is_valid accepts (after (get old.overlay.ledger.utxo) old.overlay.applied) old.overlay.ledger.tick i.1) xs i old new k refl h
