-- What is kept and dropped of a list with one more item.
use Rattle.std.proofs.Common.{◌≡◌, ℕ, Bool, true, false, cond, List, [], ◌∷◌, ◌++◌, if◌then◌else◌, refl, ap, ◌∙◌}
use Rattle.std.specs.List.{AllByRecursion}
use Rattle.mp_tx.specs.Transaction.{Transaction}
use Rattle.mp_utxo.specs.Apply.{Unspent, apply, after}
use Rattle.mp_rules.specs.Verifier.{Accepts}
use Rattle.mp_seqpool.specs.Keep.{transactions, is_valid, keep_upon, dropped_upon}

cons_cond : {X : Type 0} (b : Bool) (x : X) (xs ys : List X) → x ∷ cond b xs ys ≡ cond b (x ∷ xs) (x ∷ ys)
cons_cond true x xs ys = refl
cons_cond false x xs ys = refl

module _ (accepts : Accepts) (tick : ℕ) where
  -- whether the last item is valid after those that were kept before it
  abbrev is_last_valid : Unspent → List (ℕ × Transaction) → ℕ × Transaction → Bool
  is_last_valid u xs e = is_valid accepts (after u (transactions (keep_upon accepts u tick xs))) tick e.1

  abbrev KeepsLast : Bool → Unspent → List (ℕ × Transaction) → ℕ × Transaction → Type 0
  KeepsLast b u xs e =
      is_last_valid u xs e ≡ b → keep_upon accepts u tick (xs ++ e ∷ []) ≡ cond b (keep_upon accepts u tick xs ++ e ∷ []) (keep_upon accepts u tick xs)

  kept_step : (v b : Bool) (u : Unspent) (i : ℕ × Transaction) (is : List (ℕ × Transaction)) (e : ℕ × Transaction)
      → KeepsLast b (apply i.1 u) is e → KeepsLast b u is e
      → is_valid accepts (after u (transactions (if v then i ∷ keep_upon accepts (apply i.1 u) tick is else keep_upon accepts u tick is))) tick e.1 ≡ b
      → (if v then i ∷ keep_upon accepts (apply i.1 u) tick (is ++ e ∷ []) else keep_upon accepts u tick (is ++ e ∷ []))
      ≡ cond b ((if v then i ∷ keep_upon accepts (apply i.1 u) tick is else keep_upon accepts u tick is) ++ e ∷ []) (if v then i ∷ keep_upon accepts (apply i.1 u) tick is else keep_upon accepts u tick is)
  kept_step true b u i is e k d h = ap (λ l. i ∷ l) (k h) ∙ cons_cond b i (keep_upon accepts (apply i.1 u) tick is ++ e ∷ []) (keep_upon accepts (apply i.1 u) tick is)
  kept_step false b u i is e k d h = d h

  pub kept_last : (b : Bool) (u : Unspent) (xs : List (ℕ × Transaction)) (e : ℕ × Transaction) → KeepsLast b u xs e
  kept_last b u [] e = λ h. ap (λ (v : Bool). if v then e ∷ [] else []) h
  kept_last b u (i ∷ is) e = kept_step (is_valid accepts u tick i.1) b u i is e (kept_last b (apply i.1 u) is e) (kept_last b u is e)

  abbrev DropsLast : Bool → Unspent → List (ℕ × Transaction) → ℕ × Transaction → Type 0
  DropsLast b u xs e =
      is_last_valid u xs e ≡ b → dropped_upon accepts u tick (xs ++ e ∷ []) ≡ cond b (dropped_upon accepts u tick xs) (dropped_upon accepts u tick xs ++ e.0 ∷ [])

  dropped_step : (v b : Bool) (u : Unspent) (i : ℕ × Transaction) (is : List (ℕ × Transaction)) (e : ℕ × Transaction)
      → DropsLast b (apply i.1 u) is e → DropsLast b u is e
      → is_valid accepts (after u (transactions (if v then i ∷ keep_upon accepts (apply i.1 u) tick is else keep_upon accepts u tick is))) tick e.1 ≡ b
      → (if v then dropped_upon accepts (apply i.1 u) tick (is ++ e ∷ []) else i.0 ∷ dropped_upon accepts u tick (is ++ e ∷ []))
      ≡ cond b (if v then dropped_upon accepts (apply i.1 u) tick is else i.0 ∷ dropped_upon accepts u tick is) ((if v then dropped_upon accepts (apply i.1 u) tick is else i.0 ∷ dropped_upon accepts u tick is) ++ e.0 ∷ [])
  dropped_step true b u i is e k d h = k h
  dropped_step false b u i is e k d h = ap (λ l. i.0 ∷ l) (d h) ∙ cons_cond b i.0 (dropped_upon accepts u tick is) (dropped_upon accepts u tick is ++ e.0 ∷ [])

  pub dropped_last : (b : Bool) (u : Unspent) (xs : List (ℕ × Transaction)) (e : ℕ × Transaction) → DropsLast b u xs e
  dropped_last b u [] e = λ h. ap (λ (v : Bool). if v then [] else e.0 ∷ []) h
  dropped_last b u (i ∷ is) e = dropped_step (is_valid accepts u tick i.1) b u i is e (dropped_last b (apply i.1 u) is e) (dropped_last b u is e)

  -- what holds of all items holds of those that are kept
  all_kept_step : (P : ℕ × Transaction → Type 0) (v : Bool) (i : ℕ × Transaction) (xs ys : List (ℕ × Transaction)) → P i → AllByRecursion P xs → AllByRecursion P ys → AllByRecursion P (if v then i ∷ xs else ys)
  all_kept_step P true i xs ys p a b = (p, a)
  all_kept_step P false i xs ys p a b = b

  pub all_kept : (P : ℕ × Transaction → Type 0) (u : Unspent) (xs : List (ℕ × Transaction)) → AllByRecursion P xs → AllByRecursion P (keep_upon accepts u tick xs)
  all_kept P u [] a = tt
  all_kept P u (i ∷ is) a = all_kept_step P (is_valid accepts u tick i.1) i (keep_upon accepts (apply i.1 u) tick is) (keep_upon accepts u tick is) a.0 (all_kept P (apply i.1 u) is a.1) (all_kept P u is a.1)

  all_dropped_step : (P : ℕ → Type 0) (v : Bool) (t : ℕ) (xs ys : List ℕ) → P t → AllByRecursion P xs → AllByRecursion P ys → AllByRecursion P (if v then xs else t ∷ ys)
  all_dropped_step P true t xs ys p a b = a
  all_dropped_step P false t xs ys p a b = (p, b)

  -- what holds of all tickets holds of those that are dropped
  pub all_dropped : (P : ℕ → Type 0) (u : Unspent) (xs : List (ℕ × Transaction)) → AllByRecursion (λ i. P i.0) xs → AllByRecursion P (dropped_upon accepts u tick xs)
  all_dropped P u [] a = tt
  all_dropped P u (i ∷ is) a = all_dropped_step P (is_valid accepts u tick i.1) i.0 (dropped_upon accepts (apply i.1 u) tick is) (dropped_upon accepts u tick is) a.0 (all_dropped P (apply i.1 u) is a.1) (all_dropped P u is a.1)
