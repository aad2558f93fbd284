-- The longest prefix within a number of bytes.
use Rattle.std.proofs.Common.{◌≡◌, ℕ, suc, ◌+◌, ◌-◌, ◌≤◌, Bool, true, false, cond, List, [], ◌∷◌, ◌++◌, length, get_or, drop, refl, ap, arith}
use Rattle.std.specs.Prelude.{nat_le}
use Rattle.mp_tx.specs.Transaction.{Transaction}
use Rattle.mp_tx.specs.Spelling.{size_of}
use Rattle.mp_seqpool.specs.Reading.{within}
use Rattle.mp_versions.specs.Reading.{IsLongestWithin}
use Rattle.std.proofs.lemmas.Bool.{leb-true, le-leb}
use Rattle.std.proofs.lemmas.List.Sums.{sum_by-cons}
use Rattle.mp_seqpool.specs.Keep.{transactions, bytes_of}
use mathlib.Core.List.{IsPrefix}

pub more_bytes : (i : ℕ × Transaction) (is : List (ℕ × Transaction)) → bytes_of (i ∷ is) ≡ size_of i.1 + bytes_of is
more_bytes i is = sum_by-cons size_of i.1 (transactions is)

begins_step : (c : Bool) (i : ℕ × Transaction) (is ws : List (ℕ × Transaction)) → IsPrefix ws is → IsPrefix (cond c (i ∷ ws) []) (i ∷ is)
begins_step true i is ws p = (p.0, ap (λ l. i ∷ l) p.1)
begins_step false i is ws p = (i ∷ is, refl)

begins : (bytes : ℕ) (items : List (ℕ × Transaction)) → IsPrefix (within bytes items) items
begins bytes [] = ([], refl)
begins bytes (i ∷ is) = begins_step (nat_le (size_of i.1) bytes) i is (within (bytes - size_of i.1) is) (begins (bytes - size_of i.1) is)

fits_step : (c : Bool) (bytes : ℕ) (i : ℕ × Transaction) (ws : List (ℕ × Transaction)) → nat_le (size_of i.1) bytes ≡ c → bytes_of ws ≤ bytes - size_of i.1 → bytes_of (cond c (i ∷ ws) []) ≤ bytes
fits_step true bytes i ws e h = let k = leb-true (size_of i.1) bytes e in let m = more_bytes i ws in omega arith
fits_step false bytes i ws e h = let none : bytes_of [] ≡ 0 = refl in omega arith

fits : (bytes : ℕ) (items : List (ℕ × Transaction)) → bytes_of (within bytes items) ≤ bytes
fits bytes [] = let none : bytes_of [] ≡ 0 = refl in omega arith
fits bytes (i ∷ is) = fits_step (nat_le (size_of i.1) bytes) bytes i (within (bytes - size_of i.1) is) refl (fits (bytes - size_of i.1) is)

longest : (bytes : ℕ) (items other : List (ℕ × Transaction)) → IsPrefix other items → bytes_of other ≤ bytes → length other ≤ length (within bytes items)
longest bytes items [] p h = let none : length {A = ℕ × Transaction} [] ≡ 0 = refl in omega arith
longest bytes [] (o ∷ os) p h = let e : length (o ∷ (os ++ p.0)) ≡ 0 = ap length p.1 in let more : length (o ∷ (os ++ p.0)) ≡ suc (length (os ++ p.0)) = refl in absurd (omega arith)
longest bytes (i ∷ is) (o ∷ os) p h =
    let same : o ≡ i = ap (λ l. get_or l 0 o) p.1 in
    let sizes : size_of o.1 ≡ size_of i.1 = ap (λ (x : ℕ × Transaction). size_of x.1) same in
    let rest : os ++ p.0 ≡ is = ap (λ l. drop 1 l) p.1 in
    let m = more_bytes o os in
    let ih = longest (bytes - size_of i.1) is os (p.0, rest) (omega arith) in
    let c : nat_le (size_of i.1) bytes ≡ true = le-leb (size_of i.1) bytes (omega arith) in
    let more : length (o ∷ os) ≡ suc (length os) = refl in
    let taken : length (within bytes (i ∷ is)) ≡ suc (length (within (bytes - size_of i.1) is)) = ap (λ b. length (cond b (i ∷ within (bytes - size_of i.1) is) [])) c in
    omega arith

pub longest_within : (bytes : ℕ) (items : List (ℕ × Transaction)) → IsLongestWithin bytes items (within bytes items)
longest_within bytes items = record { begins = begins bytes items; fits = fits bytes items; longest = longest bytes items }
