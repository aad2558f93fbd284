-- What is kept of a list of items, and what stays true of it.
use Rattle.std.proofs.Common.{◌≡◌, ◌≢◌, ℕ, zero, suc, ◌+◌, ◌<◌, ◌≤◌, Bool, true, false, cond, not, List, [], ◌∷◌, ◌++◌, refl, sym, subst, arith}
use Rattle.std.specs.Prelude.{Option, None, Some, is_none, map, All, AllPairs}
use Rattle.std.specs.List.Sorted.{IsStrictlyIncreasing}
use Rattle.std.proofs.lemmas.List.Elements.{All-nil, All-cons, All-head, All-tail, All-map, All-filter}
use Rattle.std.proofs.lemmas.List.Kept.{AllPairs-cons, AllPairs-filter, AllPairs-from_increasing}
use Rattle.mp_tx.specs.Transaction.{Transaction}
use Rattle.mp_tx.specs.Spelling.{id_of}
use Rattle.mp_utxo.specs.Apply.{Unspent, apply, after}
use Rattle.mp_rules.specs.Verifier.{Accepts}
use Rattle.mp_rules.specs.Validity.{IsValid, Chain, SignaturesAccepted}
use Rattle.mp_rules.specs.FirstFault.{first_fault}
use Rattle.mp_rules.specs.Checked.{IsSigned}
use Rattle.mp_rules.proofs.Faults.{each_rule}
use Rattle.mp_rules.proofs.Valid.{valid}
use Rattle.mp_seqpool.specs.Keep.{transactions, tickets, is_named, unnamed, is_valid, keep_upon}

-- ---- lists

pub AllPairs-nil : {A : Type 0} (R : A → A → Type 0) → AllPairs R []
AllPairs-nil R i j d lt within = absurd (omega arith)

pub AllPairs-head : {A : Type 0} (R : A → A → Type 0) (x : A) (xs : List A) → AllPairs R (x ∷ xs) → All (R x) xs
AllPairs-head R x xs pairs k d lt = pairs zero (suc k) d (omega arith) (omega arith)

pub AllPairs-tail : {A : Type 0} (R : A → A → Type 0) (x : A) (xs : List A) → AllPairs R (x ∷ xs) → AllPairs R xs
AllPairs-tail R x xs pairs i j d lt within = pairs (suc i) (suc j) d (omega arith) (omega arith)

pub All-unmap : {A B : Type 0} (f : A → B) (P : B → Type 0) (xs : List A) → All P (map f xs) → All (λ x. P (f x)) xs
All-unmap f P [] all = All-nil (λ x. P (f x))
All-unmap f P (x ∷ xs) all =
    All-cons (λ x. P (f x)) x xs (All-head P (f x) (map f xs) all) (All-unmap f P xs (All-tail P (f x) (map f xs) all))

pub AllPairs-map : {A B : Type 0} (f : A → B) (R : B → B → Type 0) (xs : List A) → AllPairs (λ x y. R (f x) (f y)) xs → AllPairs R (map f xs)
AllPairs-map f R [] pairs = AllPairs-nil R
AllPairs-map f R (x ∷ xs) pairs =
    AllPairs-cons R (f x) (map f xs)
    (All-map (R (f x)) f xs (AllPairs-head (λ x y. R (f x) (f y)) x xs pairs))
    (AllPairs-map f R xs (AllPairs-tail (λ x y. R (f x) (f y)) x xs pairs))

pub AllPairs-unmap : {A B : Type 0} (f : A → B) (R : B → B → Type 0) (xs : List A) → AllPairs R (map f xs) → AllPairs (λ x y. R (f x) (f y)) xs
AllPairs-unmap f R [] pairs = AllPairs-nil (λ x y. R (f x) (f y))
AllPairs-unmap f R (x ∷ xs) pairs =
    AllPairs-cons (λ x y. R (f x) (f y)) x xs
    (All-unmap f (R (f x)) xs (AllPairs-head R (f x) (map f xs) pairs))
    (AllPairs-unmap f R xs (AllPairs-tail R (f x) (map f xs) pairs))

increasing : (ks : List ℕ) → AllPairs (λ a b. a < b) ks → IsStrictlyIncreasing ks
increasing ks pairs k lt = pairs k (k + 1) 0 (omega arith) lt

pub no_fault : {A : Type 0} (o : Option A) → is_none o ≡ true → o ≡ None
no_fault None e = refl
no_fault (Some x) e = Prim.cc

-- ---- tickets and ids

-- tickets are strictly increasing, from 1 to at most the last one, and ids are distinct
pub record IsOrderly (last : ℕ) (items : List (ℕ × Transaction)) : Type 0 where
  pub rising : AllPairs (λ a b. a.0 < b.0) items
  pub above_zero : All (λ i. 0 < i.0) items
  pub given : All (λ i. i.0 ≤ last) items
  pub distinct : AllPairs (λ a b. id_of a.1 ≢ id_of b.1) items

pub orderly-of : (last : ℕ) (items : List (ℕ × Transaction)) → IsStrictlyIncreasing (tickets items) → All (λ k. 0 < k) (tickets items) → All (λ k. k ≤ last) (tickets items)
    → AllPairs (λ a b. a ≢ b) (map id_of (transactions items)) → IsOrderly last items
orderly-of last items rising above_zero given distinct = record {
  rising = AllPairs-unmap (λ i. i.0) (λ a b. a < b) items (AllPairs-from_increasing (tickets items) rising);
  above_zero = All-unmap (λ i. i.0) (λ k. 0 < k) items above_zero;
  given = All-unmap (λ i. i.0) (λ k. k ≤ last) items given;
  distinct = AllPairs-unmap (λ i. i.1) (λ t s. id_of t ≢ id_of s) items (AllPairs-unmap id_of (λ a b. a ≢ b) (transactions items) distinct);
}

pub rising-of : (last : ℕ) (items : List (ℕ × Transaction)) → IsOrderly last items → IsStrictlyIncreasing (tickets items)
rising-of last items is = increasing (tickets items) (AllPairs-map (λ i. i.0) (λ a b. a < b) items is.rising)

pub above_zero-of : (last : ℕ) (items : List (ℕ × Transaction)) → IsOrderly last items → All (λ k. 0 < k) (tickets items)
above_zero-of last items is = All-map (λ k. 0 < k) (λ i. i.0) items is.above_zero

pub given-of : (last : ℕ) (items : List (ℕ × Transaction)) → IsOrderly last items → All (λ k. k ≤ last) (tickets items)
given-of last items is = All-map (λ k. k ≤ last) (λ i. i.0) items is.given

pub distinct-of : (last : ℕ) (items : List (ℕ × Transaction)) → IsOrderly last items → AllPairs (λ a b. a ≢ b) (map id_of (transactions items))
distinct-of last items is =
    AllPairs-map id_of (λ a b. a ≢ b) (transactions items) (AllPairs-map (λ i. i.1) (λ t s. id_of t ≢ id_of s) items is.distinct)

-- ---- those with other ids

pub orderly-unnamed : (last : ℕ) (ids : List (List ℕ)) (items : List (ℕ × Transaction)) → IsOrderly last items → IsOrderly last (unnamed ids items)
orderly-unnamed last ids items is = record {
  rising = AllPairs-filter (λ a b. a.0 < b.0) (λ i. not (is_named ids i.1)) items is.rising;
  above_zero = All-filter (λ i. not (is_named ids i.1)) (λ i. 0 < i.0) items is.above_zero;
  given = All-filter (λ i. not (is_named ids i.1)) (λ i. i.0 ≤ last) items is.given;
  distinct = AllPairs-filter (λ a b. id_of a.1 ≢ id_of b.1) (λ i. not (is_named ids i.1)) items is.distinct;
}

pub All-unnamed : (P : ℕ × Transaction → Type 0) (ids : List (List ℕ)) (items : List (ℕ × Transaction)) → All P items → All P (unnamed ids items)
All-unnamed P ids items all = All-filter (λ i. not (is_named ids i.1)) P items all

-- ---- those that are still valid

module _ (accepts : Accepts) where
  -- a fact of what is kept of one item and others, by whether the one is valid
  one_more : (Q : List (ℕ × Transaction) → Type 0) (u : Unspent) (tick : ℕ) (i : ℕ × Transaction) (is : List (ℕ × Transaction))
      → (is_valid accepts u tick i.1 ≡ true → Q (i ∷ keep_upon accepts (apply i.1 u) tick is)) → Q (keep_upon accepts u tick is) → Q (keep_upon accepts u tick (i ∷ is))
  one_more Q u tick i is with_it without = by (is_valid accepts u tick i.1) refl
    where
      by : (b : Bool) → is_valid accepts u tick i.1 ≡ b → Q (cond (is_valid accepts u tick i.1) (i ∷ keep_upon accepts (apply i.1 u) tick is) (keep_upon accepts u tick is))
      by true e = subst (λ b. Q (cond b (i ∷ keep_upon accepts (apply i.1 u) tick is) (keep_upon accepts u tick is))) (sym e) (with_it e)
      by false e = subst (λ b. Q (cond b (i ∷ keep_upon accepts (apply i.1 u) tick is) (keep_upon accepts u tick is))) (sym e) without

  pub All-kept : (P : ℕ × Transaction → Type 0) (u : Unspent) (tick : ℕ) (items : List (ℕ × Transaction)) → All P items → All P (keep_upon accepts u tick items)
  All-kept P u tick [] all = all
  All-kept P u tick (i ∷ is) all =
      let rest = All-tail P i is all in
      one_more (All P) u tick i is
      (λ _. All-cons P i (keep_upon accepts (apply i.1 u) tick is) (All-head P i is all) (All-kept P (apply i.1 u) tick is rest))
      (All-kept P u tick is rest)

  AllPairs-kept : (R : ℕ × Transaction → ℕ × Transaction → Type 0) (u : Unspent) (tick : ℕ) (items : List (ℕ × Transaction)) → AllPairs R items → AllPairs R (keep_upon accepts u tick items)
  AllPairs-kept R u tick [] pairs = pairs
  AllPairs-kept R u tick (i ∷ is) pairs =
      let rest = AllPairs-tail R i is pairs in
      one_more (AllPairs R) u tick i is
      (λ _. AllPairs-cons R i (keep_upon accepts (apply i.1 u) tick is) (All-kept (R i) (apply i.1 u) tick is (AllPairs-head R i is pairs)) (AllPairs-kept R (apply i.1 u) tick is rest))
      (AllPairs-kept R u tick is rest)

  pub orderly-kept : (last : ℕ) (u : Unspent) (tick : ℕ) (items : List (ℕ × Transaction)) → IsOrderly last items → IsOrderly last (keep_upon accepts u tick items)
  orderly-kept last u tick items is = record {
    rising = AllPairs-kept (λ a b. a.0 < b.0) u tick items is.rising;
    above_zero = All-kept (λ i. 0 < i.0) u tick items is.above_zero;
    given = All-kept (λ i. i.0 ≤ last) u tick items is.given;
    distinct = AllPairs-kept (λ a b. id_of a.1 ≢ id_of b.1) u tick items is.distinct;
  }

  pub chain-kept : (u : Unspent) (tick : ℕ) (items : List (ℕ × Transaction)) → Chain accepts u tick (transactions (keep_upon accepts u tick items))
  chain-kept u tick [] = tt
  chain-kept u tick (i ∷ is) =
      one_more (λ kept. Chain accepts u tick (transactions kept)) u tick i is
      (λ e. (valid accepts u tick i.1 (no_fault (first_fault accepts u tick i.1) e), chain-kept (apply i.1 u) tick is))
      (chain-kept u tick is)

  -- one more that is valid after all of a chain
  pub chain-push : (u : Unspent) (tick : ℕ) (ts : List Transaction) (t : Transaction) → Chain accepts u tick ts → IsValid accepts (after u ts) tick t → Chain accepts u tick (ts ++ t ∷ [])
  chain-push u tick [] t c v = (v, tt)
  chain-push u tick (x ∷ ts) t c v = (c.0, chain-push (apply x u) tick ts t c.1 v)

  -- all signatures in a chain are accepted
  pub signed-chain : (u : Unspent) (tick : ℕ) (ts : List Transaction) → Chain accepts u tick ts → All (IsSigned accepts) ts
  signed-chain u tick [] c = All-nil (IsSigned accepts)
  signed-chain u tick (t ∷ ts) c =
      All-cons (IsSigned accepts) t ts ((each_rule accepts u tick t SignaturesAccepted).none (c.0 SignaturesAccepted)) (signed-chain (apply t u) tick ts c.1)
