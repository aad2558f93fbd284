-- One more item is divided.
use Rattle.std.proofs.Common.{◌≡◌, ℕ, ◌<◌, ⊎_elim, Bool, true, false, cond, List, [], ◌∷◌, ◌++◌, get_or, refl, sym, ap, subst, ◌∙◌}
use Rattle.std.specs.Prelude.{Option, None, Some, is_some, is_none, not, ◌&&◌, ◌||◌, All}
use Rattle.std.specs.List.{filter, list_any}
use Rattle.std.specs.FinMap.{get}
use Rattle.std.proofs.lemmas.Bool.{true≢false}
use Rattle.std.proofs.lemmas.List.{append-nil}
use Rattle.std.proofs.lemmas.List.Folds.{list_any_none}
use Rattle.std.proofs.lemmas.List.Elements.{All-push, All-map, All-filter, filter-append}
use Rattle.mp_tx.specs.declared.input.Input.{Input}
use Rattle.mp_tx.specs.declared.output.Output.{Output}
use Rattle.mp_tx.specs.Transaction.{Transaction}
use Rattle.mp_tx.specs.Ledger.{LedgerState}
use Rattle.mp_utxo.specs.Leaf.{IsLeaf}
use Rattle.mp_seqpool.specs.Keep.{tickets}
use Rattle.mp_seqpool.specs.declared.parting.Parted.{Parted}
use Rattle.mp_seqpool.specs.Parted.{is_spent_since, is_lost, IsUntouched, IsParted}
use Rattle.mp_seqpool.specs.Inside.Parts.{AreBelow, Stays, Goes, Parts}

abbrev Items : Type 0
Items = List (ℕ × Transaction)

there_once : (o : Option Output) → (is_some o && is_none o) ≡ false
there_once None = refl
there_once (Some x) = refl

-- the same output isn't there on one and gone on the other
same_there : (a b : Option Output) → a ≡ b → (is_some a && is_none b) ≡ false
same_there a b e = ap (λ o. is_some o && is_none b) e ∙ there_once b

module _ (old : LedgerState) (ts : List Transaction) (new : LedgerState) where
  -- what is untouched isn't lost
  kept_whole : (t : Transaction) → IsUntouched old new t → is_lost old new t ≡ false
  kept_whole t u =
      ap (λ b. not b || list_any (λ i. is_spent_since (get old.utxo) (get new.utxo) i.from) t.inputs) u.timely
      ∙ list_any_none (λ (i : Input). is_spent_since (get old.utxo) (get new.utxo) i.from) t.inputs
      (λ k d lt. same_there (get old.utxo (get_or t.inputs k d).from) (get new.utxo (get_or t.inputs k d).from) (u.inputs k d lt))

  abbrev stays : ℕ × Transaction → Bool
  stays i = not (is_lost old new i.1)

  abbrev goes : ℕ × Transaction → Bool
  goes i = is_lost old new i.1

  tickets-joined : (xs ys : Items) → tickets (xs ++ ys) ≡ tickets xs ++ tickets ys
  tickets-joined [] ys = refl
  tickets-joined (x ∷ xs) ys = ap (λ l. x.0 ∷ l) (tickets-joined xs ys)

  -- the tickets of those that pass a test, with one more item
  passed : (test : ℕ × Transaction → Bool) (xs : Items) (i : ℕ × Transaction) (b : Bool) → test i ≡ b → tickets (filter test (xs ++ i ∷ [])) ≡ tickets (filter test xs) ++ cond b (i.0 ∷ []) []
  passed test xs i b h = ap tickets (filter-append test xs (i ∷ [])) ∙ tickets-joined (filter test xs) (filter test (i ∷ [])) ∙ ap (λ l. tickets (filter test xs) ++ l) (one test i b h)
    where
      one : (test : ℕ × Transaction → Bool) (i : ℕ × Transaction) (b : Bool) → test i ≡ b → tickets (filter test (i ∷ [])) ≡ cond b (i.0 ∷ []) []
      one test i true h = ap (λ c. tickets (cond c (i ∷ []) [])) h
      one test i false h = ap (λ c. tickets (cond c (i ∷ []) [])) h

  one_stays : (xs : Items) (i : ℕ × Transaction) (was now : Parted) → IsParted old ts new xs was → Stays old new was i now → IsParted old ts new (xs ++ i ∷ []) now
  one_stays xs i was now is s =
      let whole = kept_whole i.1 s.untouched in
      record {
        kept = s.kept ∙ ap (λ l. l ++ i.0 ∷ []) is.kept ∙ sym (passed stays xs i true (ap not whole));
        dropped = s.dropped ∙ is.dropped ∙ sym (passed goes xs i false whole ∙ append-nil (tickets (filter goes xs)));
        untouched = All-push (λ j. is_lost old new j.1 ≡ false → IsUntouched old new j.1) xs i is.untouched (λ h. s.untouched);
        leaves = All-push (λ j. is_lost old new j.1 ≡ true → IsLeaf (get old.utxo) ts j.1) xs i is.leaves (λ h. absurd (true≢false (sym h ∙ whole)));
      }

  one_goes : (xs : Items) (i : ℕ × Transaction) (was now : Parted) → IsParted old ts new xs was → Goes old ts new was i now → IsParted old ts new (xs ++ i ∷ []) now
  one_goes xs i was now is g = record {
    kept = g.kept ∙ is.kept ∙ sym (passed stays xs i false (ap not g.lost) ∙ append-nil (tickets (filter stays xs)));
    dropped = g.dropped ∙ ap (λ l. l ++ i.0 ∷ []) is.dropped ∙ sym (passed goes xs i true g.lost);
    untouched = All-push (λ j. is_lost old new j.1 ≡ false → IsUntouched old new j.1) xs i is.untouched (λ h. absurd (true≢false (sym g.lost ∙ h)));
    leaves = All-push (λ j. is_lost old new j.1 ≡ true → IsLeaf (get old.utxo) ts j.1) xs i is.leaves (λ h. g.leaf);
  }

  pub one_more : (xs : Items) (i : ℕ × Transaction) (was now : Parted) → IsParted old ts new xs was → Parts old ts new was i now → IsParted old ts new (xs ++ i ∷ []) now
  one_more xs i was now is parts = ⊎_elim (one_stays xs i was now is) (one_goes xs i was now is) parts

  -- if all items are below a ticket, so are all tickets that come from them
  pub below : (xs : Items) (ticket : ℕ) (p : Parted) → All (λ i. i.0 < ticket) xs → IsParted old ts new xs p → AreBelow ticket p
  below xs ticket p a is = record {
    kept = subst (All (λ t. t < ticket)) (sym is.kept) (All-map (λ t. t < ticket) (λ i. i.0) (filter stays xs) (All-filter stays (λ i. i.0 < ticket) xs a));
    dropped = subst (All (λ t. t < ticket)) (sym is.dropped) (All-map (λ t. t < ticket) (λ i. i.0) (filter goes xs) (All-filter goes (λ i. i.0 < ticket) xs a));
  }
