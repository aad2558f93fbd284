-- Items that are removed, and items that stay.
use Rattle.std.proofs.Common.{◌≡◌, ℕ, ◌+◌, ◌-◌, ◌<◌, ◌≤◌, Bool, true, false, cond, List, [], ◌∷◌, length, refl, ap, ◌∙◌, arith}
use Rattle.std.specs.Prelude.{not, All}
use Rattle.std.proofs.lemmas.List.Elements.{All-cons, All-head, All-tail}
use Rattle.mp_tx.specs.Transaction.{Transaction}
use Rattle.mp_tx.specs.Spelling.{size_of}
use Rattle.mp_tickets.specs.Tickets.{IsRisingFrom, IsRising, has_ticket, among}
use Rattle.mp_seqpool.specs.Keep.{transactions, tickets, bytes_of}
use Rattle.mp_seqpool.specs.declared.command.Reply.{Reply}
use Rattle.mp_seqpool.specs.declared.command.Reply.TheVariants.{Accepted, Removed, Synced}
use Rattle.mp_seqpool.specs.Prepared.{apart, left_by}
use Rattle.mp_versions.proofs.ByteSums.{sum_first}

parts : (b : Bool) (n : ℕ) (i : ℕ × Transaction) (gone stay : List (ℕ × Transaction)) → n ≡ size_of i.1 + (bytes_of gone + bytes_of stay)
    → n ≡ bytes_of (cond b (i ∷ gone) gone) + bytes_of (cond (not b) (i ∷ stay) stay)
parts true n i gone stay is = let more = sum_first i.1 (transactions gone) in omega (arith, is, more)
parts false n i gone stay is = let more = sum_first i.1 (transactions stay) in omega (arith, is, more)

-- the bytes of the items removed and of those that stay are the bytes of all
pub bytes_parted : (ts : List ℕ) (items : List (ℕ × Transaction)) → bytes_of items ≡ bytes_of (among ts items) + bytes_of (apart ts items)
bytes_parted ts [] = refl
bytes_parted ts (i ∷ is) =
    parts (has_ticket ts i.0) (bytes_of (i ∷ is)) i (among ts is) (apart ts is) (sum_first i.1 (transactions is) ∙ ap (λ n. size_of i.1 + n) (bytes_parted ts is))

pub less_gone : (ts : List ℕ) (items : List (ℕ × Transaction)) (all gone : ℕ) → all ≡ bytes_of items → gone ≡ bytes_of (among ts items) → all - gone ≡ bytes_of (apart ts items)
less_gone ts items all gone a g = let sum = bytes_parted ts items in omega (arith, sum, a, g)

lower : (m low : ℕ) (items : List (ℕ × Transaction)) → m ≤ low → IsRisingFrom low items → IsRisingFrom m items
lower m low [] h r = tt
lower m low (i ∷ is) h r = let k = r.0 in (omega arith, r.1)

rising_step : (b : Bool) (low : ℕ) (i : ℕ × Transaction) (is : List (ℕ × Transaction)) → low < i.0 → IsRisingFrom i.0 is → IsRisingFrom low (cond b (i ∷ is) is)
rising_step true low i is h r = (h, r)
rising_step false low i is h r = lower low i.0 is (omega arith) r

pub rising_apart : (ts : List ℕ) (low : ℕ) (items : List (ℕ × Transaction)) → IsRisingFrom low items → IsRisingFrom low (apart ts items)
rising_apart ts low [] r = tt
rising_apart ts low (i ∷ is) r = rising_step (not (has_ticket ts i.0)) low i (apart ts is) r.0 (rising_apart ts i.0 is r.1)

-- tickets are strictly increasing, so there are at most as many items as the last ticket
pub count_within : (low last : ℕ) (items : List (ℕ × Transaction)) → low ≤ last → IsRisingFrom low items → All (λ k. k ≤ last) (tickets items) → low + length items ≤ last
count_within low last [] h r a = omega arith
count_within low last (i ∷ is) h r a =
    let k = r.0 in
    let n = count_within i.0 last is (All-head (λ k. k ≤ last) i.0 (tickets is) a) r.1 (All-tail (λ k. k ≤ last) i.0 (tickets is) a) in
    omega arith

-- without tickets, nothing is removed
pub apart_none : (items : List (ℕ × Transaction)) → apart [] items ≡ items
apart_none [] = refl
apart_none (i ∷ is) = ap (λ l. i ∷ l) (apart_none is)

stays_given : (last : ℕ) (b : Bool) (i : ℕ × Transaction) (is : List (ℕ × Transaction)) → i.0 ≤ last → All (λ k. k ≤ last) (tickets is) → All (λ k. k ≤ last) (tickets (cond b (i ∷ is) is))
stays_given last true i is h a = All-cons (λ k. k ≤ last) i.0 (tickets is) h a
stays_given last false i is h a = a

pub given_apart : (last : ℕ) (ts : List ℕ) (items : List (ℕ × Transaction)) → All (λ k. k ≤ last) (tickets items) → All (λ k. k ≤ last) (tickets (apart ts items))
given_apart last ts [] a = a
given_apart last ts (i ∷ is) a =
    stays_given last (not (has_ticket ts i.0)) i (apart ts is) (All-head (λ k. k ≤ last) i.0 (tickets is) a) (given_apart last ts is (All-tail (λ k. k ≤ last) i.0 (tickets is) a))

-- ---- what a reply leaves

pub rising_left : (r : Reply) (items : List (ℕ × Transaction)) → IsRising items → IsRising (left_by r items)
rising_left (Accepted ticket) items r = r
rising_left (Removed named dropped) items r = rising_apart dropped 0 (apart named items) (rising_apart named 0 items r)
rising_left (Synced kept dropped) items r = rising_apart dropped 0 items r

pub given_left : (last : ℕ) (r : Reply) (items : List (ℕ × Transaction)) → All (λ k. k ≤ last) (tickets items) → All (λ k. k ≤ last) (tickets (left_by r items))
given_left last (Accepted ticket) items a = a
given_left last (Removed named dropped) items a = given_apart last dropped (apart named items) (given_apart last named items a)
given_left last (Synced kept dropped) items a = given_apart last dropped items a

pub fewer : (ts : List ℕ) (items : List (ℕ × Transaction)) → bytes_of (apart ts items) ≤ bytes_of items
fewer ts items = let all = bytes_parted ts items in omega (arith, all)

pub bytes_left : (r : Reply) (items : List (ℕ × Transaction)) → bytes_of (left_by r items) ≤ bytes_of items
bytes_left (Accepted ticket) items = omega arith
bytes_left (Removed named dropped) items = let a = fewer named items in let b = fewer dropped (apart named items) in omega (arith, a, b)
bytes_left (Synced kept dropped) items = fewer dropped items
