-- Items without the tickets of those that go are those that stay.
use Rattle.std.proofs.Common.{◌≡◌, ℕ, ◌<◌, ◌≤◌, Bool, true, false, cond, List, [], ◌∷◌, refl, ap, ◌∙◌, arith}
use Rattle.std.specs.Prelude.{not, ◌||◌}
use Rattle.std.specs.List.{filter, AllByRecursion}
use Rattle.std.proofs.lemmas.Bool.{eq-eqb, ne_eqb}
use Rattle.mp_tx.specs.Transaction.{Transaction}
use Rattle.mp_utxo.specs.Apply.{Unspent, apply}
use Rattle.mp_rules.specs.Verifier.{Accepts}
use Rattle.mp_tickets.specs.Tickets.{IsRisingFrom, has_ticket}
use Rattle.mp_seqpool.specs.Keep.{tickets, is_named, named, unnamed, is_valid, keep_upon, dropped_upon}
use Rattle.mp_seqpool.specs.Prepared.{apart}

pub all_above : (low m : ℕ) (ys : List (ℕ × Transaction)) → m ≤ low → IsRisingFrom low ys → AllByRecursion (λ y. m < y.0) ys
all_above low m [] h r = tt
all_above low m (y ∷ ys) h r = let k = r.0 in (omega arith, all_above y.0 m ys (omega arith) r.1)

pub not_among : (n : ℕ) (ts : List ℕ) → AllByRecursion (λ t. n < t) ts → has_ticket ts n ≡ false
not_among n [] a = refl
not_among n (t ∷ ts) a = let h = a.0 in ap (λ b. b || has_ticket ts n) (ne_eqb t n (λ e. omega arith)) ∙ not_among n ts a.1

-- a lesser ticket makes no difference
apart_lesser : (n : ℕ) (ts : List ℕ) (items : List (ℕ × Transaction)) → AllByRecursion (λ i. n < i.0) items → apart (n ∷ ts) items ≡ apart ts items
apart_lesser n ts [] a = refl
apart_lesser n ts (i ∷ is) a =
    let h = a.0 in
    ap (λ b. cond (not (b || has_ticket ts i.0)) (i ∷ apart (n ∷ ts) is) (apart (n ∷ ts) is)) (ne_eqb n i.0 (λ e. omega arith))
    ∙ ap (λ l. cond (not (has_ticket ts i.0)) (i ∷ l) l) (apart_lesser n ts is a.1)

goes : (i : ℕ × Transaction) (ts : List ℕ) (is : List (ℕ × Transaction)) → AllByRecursion (λ y. i.0 < y.0) is → apart (i.0 ∷ ts) (i ∷ is) ≡ apart ts is
goes i ts is a =
    ap (λ b. cond (not (b || has_ticket ts i.0)) (i ∷ apart (i.0 ∷ ts) is) (apart (i.0 ∷ ts) is)) (eq-eqb i.0 i.0 refl) ∙ apart_lesser i.0 ts is a

stays : (i : ℕ × Transaction) (ts : List ℕ) (is : List (ℕ × Transaction)) → AllByRecursion (λ t. i.0 < t) ts → apart ts (i ∷ is) ≡ i ∷ apart ts is
stays i ts is a = ap (λ b. cond (not b) (i ∷ apart ts is) (apart ts is)) (not_among i.0 ts a)

-- ---- what passes a test

module _ (test : ℕ × Transaction → Bool) where
  tested_above : (b : Bool) (m : ℕ) (i : ℕ × Transaction) (ns : List (ℕ × Transaction)) → m < i.0 → AllByRecursion (λ t. m < t) (tickets ns) → AllByRecursion (λ t. m < t) (tickets (cond b (i ∷ ns) ns))
  tested_above true m i ns h a = (h, a)
  tested_above false m i ns h a = a

  pub above_tested : (m : ℕ) (items : List (ℕ × Transaction)) → AllByRecursion (λ i. m < i.0) items → AllByRecursion (λ t. m < t) (tickets (filter test items))
  above_tested m [] a = tt
  above_tested m (i ∷ is) a = tested_above (test i) m i (filter test is) a.0 (above_tested m is a.1)

  tested_step : (b : Bool) (i : ℕ × Transaction) (ns us is : List (ℕ × Transaction)) → AllByRecursion (λ y. i.0 < y.0) is → AllByRecursion (λ t. i.0 < t) (tickets ns) → apart (tickets ns) is ≡ us
      → apart (tickets (cond b (i ∷ ns) ns)) (i ∷ is) ≡ cond (not b) (i ∷ us) us
  tested_step true i ns us is above less e = goes i (tickets ns) is above ∙ e
  tested_step false i ns us is above less e = stays i (tickets ns) is less ∙ ap (λ l. i ∷ l) e

  -- without the tickets of those that pass it, the others remain
  pub apart_tested : (low : ℕ) (items : List (ℕ × Transaction)) → IsRisingFrom low items → apart (tickets (filter test items)) items ≡ filter (λ i. not (test i)) items
  apart_tested low [] r = refl
  apart_tested low (i ∷ is) r =
      let above = all_above i.0 i.0 is (omega arith) r.1 in
      tested_step (test i) i (filter test is) (filter (λ j. not (test j)) is) is above (above_tested i.0 is above) (apart_tested i.0 is r.1)

pub apart_named : (low : ℕ) (ids : List (List ℕ)) (items : List (ℕ × Transaction)) → IsRisingFrom low items → apart (tickets (named ids items)) items ≡ unnamed ids items
apart_named low ids items r = apart_tested (λ i. is_named ids i.1) low items r

-- ---- what isn't valid

dropped_above : (b : Bool) (m n : ℕ) (ts ss : List ℕ) → m < n → AllByRecursion (λ t. m < t) ts → AllByRecursion (λ t. m < t) ss → AllByRecursion (λ t. m < t) (cond b ts (n ∷ ss))
dropped_above true m n ts ss h a c = a
dropped_above false m n ts ss h a c = (h, c)

above_dropped : (accepts : Accepts) (u : Unspent) (tick m : ℕ) (items : List (ℕ × Transaction)) → AllByRecursion (λ i. m < i.0) items → AllByRecursion (λ t. m < t) (dropped_upon accepts u tick items)
above_dropped accepts u tick m [] a = tt
above_dropped accepts u tick m (i ∷ is) a =
    dropped_above (is_valid accepts u tick i.1) m i.0 (dropped_upon accepts (apply i.1 u) tick is) (dropped_upon accepts u tick is) a.0 (above_dropped accepts (apply i.1 u) tick m is a.1) (above_dropped accepts u tick m is a.1)

valid_step : (b : Bool) (i : ℕ × Transaction) (ts ss : List ℕ) (ks js is : List (ℕ × Transaction)) → AllByRecursion (λ y. i.0 < y.0) is → AllByRecursion (λ t. i.0 < t) ts → apart ts is ≡ ks → apart ss is ≡ js
    → apart (cond b ts (i.0 ∷ ss)) (i ∷ is) ≡ cond b (i ∷ ks) js
valid_step true i ts ss ks js is above less e d = stays i ts is less ∙ ap (λ l. i ∷ l) e
valid_step false i ts ss ks js is above less e d = goes i ss is above ∙ d

pub apart_dropped : (accepts : Accepts) (u : Unspent) (tick low : ℕ) (items : List (ℕ × Transaction)) → IsRisingFrom low items → apart (dropped_upon accepts u tick items) items ≡ keep_upon accepts u tick items
apart_dropped accepts u tick low [] r = refl
apart_dropped accepts u tick low (i ∷ is) r =
    let above = all_above i.0 i.0 is (omega arith) r.1 in
    valid_step (is_valid accepts u tick i.1) i (dropped_upon accepts (apply i.1 u) tick is) (dropped_upon accepts u tick is) (keep_upon accepts (apply i.1 u) tick is) (keep_upon accepts u tick is) is above
    (above_dropped accepts (apply i.1 u) tick i.0 is above) (apart_dropped accepts (apply i.1 u) tick i.0 is r.1) (apart_dropped accepts u tick i.0 is r.1)

-- ---- what remains is strictly increasing

lower : (m low : ℕ) (items : List (ℕ × Transaction)) → m ≤ low → IsRisingFrom low items → IsRisingFrom m items
lower m low [] h r = tt
lower m low (i ∷ is) h r = let k = r.0 in (omega arith, r.1)

filter_step : (b : Bool) (low : ℕ) (i : ℕ × Transaction) (us : List (ℕ × Transaction)) → low < i.0 → IsRisingFrom i.0 us → IsRisingFrom low (cond b (i ∷ us) us)
filter_step true low i us h r = (h, r)
filter_step false low i us h r = lower low i.0 us (omega arith) r

pub rising_filter : (p : ℕ × Transaction → Bool) (low : ℕ) (items : List (ℕ × Transaction)) → IsRisingFrom low items → IsRisingFrom low (filter p items)
rising_filter p low [] r = tt
rising_filter p low (i ∷ is) r = filter_step (p i) low i (filter p is) r.0 (rising_filter p i.0 is r.1)

pub rising_unnamed : (low : ℕ) (ids : List (List ℕ)) (items : List (ℕ × Transaction)) → IsRisingFrom low items → IsRisingFrom low (unnamed ids items)
rising_unnamed low ids = rising_filter (λ i. not (is_named ids i.1)) low
