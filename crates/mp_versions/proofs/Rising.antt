-- Offers of items whose tickets are strictly increasing.
use Rattle.std.proofs.Common.{◌≡◌, inl, inr, ℕ, zero, suc, ◌+◌, ◌<◌, ◌≤◌, Bool, true, false, cond, List, [], ◌∷◌, ◌++◌, get_or, sym, subst, refl, ap, ◌∙◌, arith}
use Rattle.std.specs.Prelude.{nat_lt, All, AllPairs, Contains, ◌⊎◌}
use Rattle.std.specs.List.Sorted.{IsStrictlyIncreasing}
use mathlib.Core.List.{IsPrefix}
use Rattle.std.proofs.lemmas.Bool.{ltb-true, lt-ltb}
use Rattle.std.proofs.lemmas.List.Elements.{All-head, Contains-append_right, Contains-append_cases}
use Rattle.mp_tx.specs.Transaction.{Transaction}
use Rattle.mp_tickets.specs.Tickets.{IsRisingFrom, IsRising, after}
use Rattle.mp_rules.specs.Verifier.{Accepts}
use Rattle.mp_seqpool.specs.Keep.{tickets}
use Rattle.mp_seqpool.specs.Pool.{Pool}
use Rattle.mp_seqpool.specs.PoolLaws.{IsLawful}
use Rattle.mp_seqpool.proofs.Keeping.{orderly-of}
use Rattle.mp_seqpool.specs.Reading.{moved}

-- -- strictly increasing tickets, step by step

climb : (low : ℕ) (items : List (ℕ × Transaction)) → AllPairs (λ a b. a.0 < b.0) items → All (λ i. low < i.0) items → IsRisingFrom low items
climb low [] pairs all = tt
climb low (i ∷ is) pairs all =
    (All-head (λ j. low < j.0) i is all, climb i.0 is (λ j k d lt within. pairs (suc j) (suc k) d (omega arith) (omega arith)) (λ k d lt. pairs zero (suc k) d (omega arith) (omega arith)))

pub rising-lawful : (accepts : Accepts) (p : Pool) → IsLawful accepts p → IsRising p.items
rising-lawful accepts p law =
    let is = orderly-of p.last p.items law.rising law.above_zero law.given law.distinct in climb 0 p.items is.rising is.above_zero

pub increasing : (low : ℕ) (items : List (ℕ × Transaction)) → IsRisingFrom low items → IsStrictlyIncreasing (tickets items)
increasing low [] r k lt = absurd (omega arith)
increasing low (i ∷ []) r k lt = absurd (omega arith)
increasing low (i ∷ j ∷ is) r zero lt = r.1.0
increasing low (i ∷ j ∷ is) r (suc k) lt =
    let ts : List ℕ = tickets (j ∷ is) in
    let e : suc (k + 1) ≡ suc k + 1 = omega arith in
    subst (λ n. get_or ts k 0 < get_or (i.0 ∷ ts) n 0) e (increasing i.0 (j ∷ is) r.1 k (omega arith))

-- ---- after a cursor

-- the rest by whether the first is after the cursor
after-step : (P : List (ℕ × Transaction) → Type 0) (cursor : ℕ) (i : ℕ × Transaction) (is : List (ℕ × Transaction)) → (cursor < i.0 → P (i ∷ after is cursor)) → P (after is cursor) → P (after (i ∷ is) cursor)
after-step P cursor i is with_it without = by (nat_lt cursor i.0) refl
  where
    by : (b : Bool) → nat_lt cursor i.0 ≡ b → P (cond (nat_lt cursor i.0) (i ∷ after is cursor) (after is cursor))
    by true e = subst (λ b. P (cond b (i ∷ after is cursor) (after is cursor))) (sym e) (with_it (ltb-true cursor i.0 e))
    by false e = subst (λ b. P (cond b (i ∷ after is cursor) (after is cursor))) (sym e) without

rising_lower : (low m : ℕ) (items : List (ℕ × Transaction)) → low ≤ m → IsRisingFrom m items → IsRisingFrom low items
rising_lower low m [] h r = tt
rising_lower low m (i ∷ is) h r = let k = r.0 in (omega arith, r.1)

-- items after a cursor still have increasing tickets above the same bound
rising-kept : (low cursor : ℕ) (items : List (ℕ × Transaction)) → IsRisingFrom low items → IsRisingFrom low (after items cursor)
rising-kept low cursor [] r = tt
rising-kept low cursor (i ∷ is) r =
    let k = r.0 in
    let rest : IsRisingFrom i.0 (after is cursor) = rising-kept i.0 cursor is r.1 in
    after-step (IsRisingFrom low) cursor i is (λ above. (k, rest)) (rising_lower low i.0 (after is cursor) (omega arith) rest)

-- and above the cursor
pub rising-after : (low cursor : ℕ) (items : List (ℕ × Transaction)) → IsRisingFrom low items → IsRisingFrom cursor (after items cursor)
rising-after low cursor [] r = tt
rising-after low cursor (i ∷ is) r = after-step (IsRisingFrom cursor) cursor i is (λ above. (above, rising-kept i.0 cursor is r.1)) (rising-after i.0 cursor is r.1)

contains-more : {A : Type 0} (x y : A) (xs : List A) → Contains xs x → Contains (y ∷ xs) x
contains-more x y xs c = Contains-append_right (y ∷ []) xs x c

pub contains-after : (cursor : ℕ) (items : List (ℕ × Transaction)) (x : ℕ × Transaction) → Contains items x → cursor < x.0 → Contains (after items cursor) x
contains-after cursor [] x c above = absurd (let lt = c.1 in omega arith)
contains-after cursor (i ∷ is) x (zero, lt, e) above =
    subst (λ (b : Bool). Contains (cond b (i ∷ after is cursor) (after is cursor)) x) (sym (ap (λ (j : ℕ × Transaction). nat_lt cursor j.0) e ∙ lt-ltb cursor x.0 above)) (zero, omega arith, e)
contains-after cursor (i ∷ is) x (suc k, lt, e) above =
    let rest : Contains (after is cursor) x = contains-after cursor is x (k, omega arith, e) above in
    after-step (λ l. Contains l x) cursor i is (λ _. contains-more x i (after is cursor) rest) rest

-- -- where a cursor is

pub rising-left : (low : ℕ) (xs ys : List (ℕ × Transaction)) → IsRisingFrom low (xs ++ ys) → IsRisingFrom low xs
rising-left low [] ys r = tt
rising-left low (x ∷ xs) ys r = (r.0, rising-left x.0 xs ys r.1)

rising-right : (low : ℕ) (xs ys : List (ℕ × Transaction)) → IsRisingFrom low (xs ++ ys) → IsRisingFrom (moved low xs) ys
rising-right low [] ys r = r
rising-right low (x ∷ xs) ys r = rising-right x.0 xs ys r.1

pub rising-joined : (low : ℕ) (xs ys : List (ℕ × Transaction)) → IsRisingFrom low xs → IsRisingFrom (moved low xs) ys → IsRisingFrom low (xs ++ ys)
rising-joined low [] ys r s = s
rising-joined low (x ∷ xs) ys r s = (r.0, rising-joined x.0 xs ys r.1 s)

pub above_low : (low : ℕ) (ys : List (ℕ × Transaction)) (x : ℕ × Transaction) → IsRisingFrom low ys → Contains ys x → low < x.0
above_low low [] x r c = absurd (let lt = c.1 in omega arith)
above_low low (y ∷ ys) x r (zero, lt, e) = subst (λ (j : ℕ × Transaction). low < j.0) e r.0
above_low low (y ∷ ys) x r (suc k, lt, e) = let h = above_low y.0 ys x r.1 (k, omega arith, e) in let l = r.0 in omega arith

-- the cursor is where it was, or at the ticket of one of the items
pub moved-bound : (P : ℕ → Type 0) (cursor : ℕ) (items : List (ℕ × Transaction)) → P cursor → ((x : ℕ × Transaction) → Contains items x → P x.0) → P (moved cursor items)
moved-bound P cursor [] p all = p
moved-bound P cursor (i ∷ is) p all = moved-bound P i.0 is (all i (zero, omega arith, refl)) (λ x c. all x (contains-more x i is c))

-- ---- one offer

-- what is after the cursor, and not after its new place, was offered
pub in_offer : (cursor low : ℕ) (items offered : List (ℕ × Transaction)) → IsRisingFrom low items → IsPrefix offered (after items cursor)
    → (x : ℕ × Transaction) → Contains items x → cursor < x.0 → x.0 ≤ moved cursor offered → Contains offered x
in_offer cursor low items offered rising begins x c above le =
    either (Contains-append_cases offered rest x (subst (λ l. Contains l x) (sym begins.1) (contains-after cursor items x c above)))
  where
    rest : List (ℕ × Transaction)
    rest = begins.0

    all : IsRisingFrom cursor (offered ++ rest)
    all = subst (IsRisingFrom cursor) (sym begins.1) (rising-after low cursor items rising)

    beyond : Contains rest x → ⊥
    beyond d = let h = above_low (moved cursor offered) rest x (rising-right cursor offered rest all) d in omega arith

    either : Contains offered x ⊎ Contains rest x → Contains offered x
    either (inl d) = d
    either (inr d) = absurd (beyond d)
