-- What holds of each item that is read, and of the order of the items.
use Rattle.std.proofs.Common.{◌≡◌, ℕ, zero, suc, ◌<◌, ◌^◌, arith, Bool, true, List, [], ◌∷◌, ◌++◌, length, Option, None, Some, Ok, refl, sym, ap, subst, ◌∙◌, append_assoc, nat_lt}
use Rattle.std.specs.Prelude.{flat_map, map, not}
use Rattle.std.specs.Int.{w16, to_be_bytes}
use Rattle.std.specs.List.{AllByRecursion}
use Rattle.std.specs.declared.cmp.Ordering.{Ordering}
use Rattle.std.specs.Cmp.{first_so, second_so}
use Rattle.std.specs.Cmp.Derive.{both_true}
use Rattle.mp_bytes.specs.Spelling.{counted}
use Rattle.mp_bytes.specs.Fields.{count_at}
use Rattle.mp_bytes.specs.Reading.{◌>>=◌}
use Rattle.mp_bytes.proofs.Bytes.{IsBytes, Takes, Takes-then, bind_ok, ok_is, or_fault_ok}
use Rattle.mp_bytes.proofs.FieldLaws.{count_takes, count_again}
use Rattle.mp_tx.specs.declared.fault.TxFault.TheVariants.{Truncated, TooLarge}
use Rattle.mp_tx.specs.Rising.{follows, rises_after}
use Rattle.mp_tx.specs.Reading.{Read, field, require, items_read, counted_read, few_count_read, few_read}
use Rattle.mp_tx.proofs.Entries.{require_ok}

-- each item is good after the key of the one before it
abbrev pub EachAfter : {K X : Type 0} → (X → K) → (Option K → X → Type 0) → Option K → List X → Type 0
EachAfter key Good before [] = Unit {0}
EachAfter key Good before (x ∷ xs) = Good before x × EachAfter key Good (Some (key x)) xs

-- what is read is good, and has this spelling
abbrev pub IsSound : {K X : Type 0} → (Option K → List ℕ → Read X) → (X → List ℕ) → (Option K → X → Type 0) → Type 0
IsSound read spelled Good = (before : _) (bytes : List ℕ) (x : _) → IsBytes bytes → read before bytes ≡ Ok x → Takes bytes (spelled x.0) x.1 × Good before x.0

-- what is good and has this spelling is read
abbrev pub IsComplete : {K X : Type 0} → (Option K → List ℕ → Read X) → (X → List ℕ) → (Option K → X → Type 0) → Type 0
IsComplete read spelled Good = (before : _) (x : _) (rest : List ℕ) → Good before x → read before (spelled x ++ rest) ≡ Ok (x, rest)

-- items that were read
pub record WereRead {K X : Type 0} (key : X → K) (spelled : X → List ℕ) (Good : Option K → X → Type 0) (before : Option K) (n : ℕ) (bytes : List ℕ) (x : List X × List ℕ) : Type 0 where
  pub takes : Takes bytes (flat_map spelled x.0) x.1
  pub number : length x.0 ≡ n
  pub good : EachAfter key Good before x.0

no_items : {K X : Type 0} (key : X → K) (spelled : X → List ℕ) (Good : Option K → X → Type 0) (before : Option K) (bytes : List ℕ) → IsBytes bytes → WereRead key spelled Good before 0 bytes ([], bytes)
no_items key spelled Good before bytes fits = record { takes = record { parts = refl; rest_fits = fits }; number = refl; good = tt }

one_more : {K X : Type 0} (key : X → K) (spelled : X → List ℕ) (Good : Option K → X → Type 0) (before : Option K) (n : ℕ) (bytes : List ℕ) (x : X × List ℕ) (xs : List X × List ℕ) → Takes bytes (spelled x.0) x.1 → Good before x.0 → WereRead key spelled Good (Some (key x.0)) n x.1 xs → WereRead key spelled Good before (suc n) bytes (x.0 ∷ xs.0, xs.1)
one_more key spelled Good before n bytes x xs t g w = record {
  takes = Takes-then bytes (spelled x.0) x.1 (flat_map spelled xs.0) xs.1 t w.takes;
  number = ap suc w.number;
  good = (g, w.good);
}

pub items_were : {K X : Type 0} (key : X → K) (read : Option K → List ℕ → Read X) (spelled : X → List ℕ) (Good : Option K → X → Type 0) → IsSound read spelled Good → (n : ℕ) (before : Option K) (bytes : List ℕ) (x : List X × List ℕ) → IsBytes bytes → items_read key read before n bytes ≡ Ok x → WereRead key spelled Good before n bytes x
items_were key read spelled Good sound zero before bytes x fits e = subst (WereRead key spelled Good before 0 bytes) (ok_is ([], bytes) x e) (no_items key spelled Good before bytes fits)
items_were key read spelled Good sound (suc n) before bytes x fits e =
    let first = bind_ok (read before bytes) _ x e in
    let more = bind_ok (items_read key read (Some (key first.0.0)) n first.0.1) _ x first.2 in
    let s = sound before bytes first.0 fits first.1 in
    let w = items_were key read spelled Good sound n (Some (key first.0.0)) first.0.1 more.0 s.0.rest_fits more.1 in
    subst (WereRead key spelled Good before (suc n) bytes) (ok_is _ x more.2) (one_more key spelled Good before n bytes first.0 more.0 s.0 s.1 w)

pub items_again : {K X : Type 0} (key : X → K) (read : Option K → List ℕ → Read X) (spelled : X → List ℕ) (Good : Option K → X → Type 0) → IsComplete read spelled Good → (xs : List X) (before : Option K) (rest : List ℕ) → EachAfter key Good before xs → items_read key read before (length xs) (flat_map spelled xs ++ rest) ≡ Ok (xs, rest)
items_again key read spelled Good complete [] before rest good = refl
items_again {K} {X} key read spelled Good complete (x ∷ xs) before rest good =
    ap (λ (bytes : List ℕ). items_read key read before (suc (length xs)) bytes) (append_assoc (spelled x) (flat_map spelled xs) rest)
    ∙ ap (λ (r : Read X). r >>= λ first. items_read key read (Some (key first.0)) (length xs) first.1 >>= λ more. Ok (first.0 ∷ more.0, more.1)) (complete before x (flat_map spelled xs ++ rest) good.0)
    ∙ ap (λ (r : Read (List X)). r >>= λ more. Ok (x ∷ more.0, more.1)) (items_again key read spelled Good complete xs (Some (key x)) rest good.1)

-- ---- after a count

pub record CountedWere {K X : Type 0} (key : X → K) (spelled : X → List ℕ) (Good : Option K → X → Type 0) (most : ℕ) (bytes : List ℕ) (x : List X × List ℕ) : Type 0 where
  pub takes : Takes bytes (counted spelled x.0) x.1
  pub few : length x.0 < most
  pub good : EachAfter key Good None x.0

with_count : {K X : Type 0} (key : X → K) (spelled : X → List ℕ) (Good : Option K → X → Type 0) (most : ℕ) (bytes : List ℕ) (n : ℕ) (rest : List ℕ) (x : List X × List ℕ) → Takes bytes (to_be_bytes w16 n) rest → n < most → WereRead key spelled Good None n rest x → CountedWere key spelled Good most bytes x
with_count key spelled Good most bytes n rest x t lt w = record {
  takes = Takes-then bytes (to_be_bytes w16 (length x.0)) rest (flat_map spelled x.0) x.1 (subst (λ (k : ℕ). Takes bytes (to_be_bytes w16 k) rest) (sym w.number) t) w.takes;
  few = subst (λ (k : ℕ). k < most) (sym w.number) lt;
  good = w.good;
}

pub counted_were : {K X : Type 0} (key : X → K) (read : Option K → List ℕ → Read X) (spelled : X → List ℕ) (Good : Option K → X → Type 0) → IsSound read spelled Good → (bytes : List ℕ) (x : List X × List ℕ) → IsBytes bytes → counted_read key read bytes ≡ Ok x → CountedWere key spelled Good (2 ^ 16) bytes x
counted_were key read spelled Good sound bytes x fits e =
    let n = bind_ok (field (count_at bytes)) _ x e in
    let c = count_takes bytes n.0.0 n.0.1 fits (or_fault_ok Truncated (count_at bytes) n.0 n.1) in
    with_count key spelled Good (2 ^ 16) bytes n.0.0 n.0.1 x c.0 c.1 (items_were key read spelled Good sound n.0.0 None n.0.1 x c.0.rest_fits n.2)

pub at_most : (n : ℕ) → not (nat_lt 256 n) ≡ true → n < 257
at_most n e = grind (arith)

pub is_few : (n : ℕ) → n < 257 → not (nat_lt 256 n) ≡ true
is_few n lt = grind (arith)

-- a count of at most 256 that was read
pub few_count_was : (bytes : List ℕ) (n : ℕ × List ℕ) → IsBytes bytes → few_count_read bytes ≡ Ok n → Takes bytes (to_be_bytes w16 n.0) n.1 × (n.0 < 257)
few_count_was bytes n fits e =
    let m = bind_ok (field (count_at bytes)) _ n e in
    let c = count_takes bytes m.0.0 m.0.1 fits (or_fault_ok Truncated (count_at bytes) m.0 m.1) in
    let r = require_ok (not (nat_lt 256 m.0.0)) TooLarge m.0 n m.2 in
    (subst (λ (k : ℕ × List ℕ). Takes bytes (to_be_bytes w16 k.0) k.1) r.1 c.0, subst (λ (k : ℕ × List ℕ). k.0 < 257) r.1 (at_most m.0.0 r.0))

pub few_were : {K X : Type 0} (key : X → K) (read : Option K → List ℕ → Read X) (spelled : X → List ℕ) (Good : Option K → X → Type 0) → IsSound read spelled Good → (bytes : List ℕ) (x : List X × List ℕ) → IsBytes bytes → few_read key read bytes ≡ Ok x → CountedWere key spelled Good 257 bytes x
few_were key read spelled Good sound bytes x fits e =
    let n = bind_ok (few_count_read bytes) _ x e in
    let c = few_count_was bytes n.0 fits n.1 in
    with_count key spelled Good 257 bytes n.0.0 n.0.1 x c.0 c.1 (items_were key read spelled Good sound n.0.0 None n.0.1 x c.0.rest_fits n.2)

pub counted_again : {K X : Type 0} (key : X → K) (read : Option K → List ℕ → Read X) (spelled : X → List ℕ) (Good : Option K → X → Type 0) → IsComplete read spelled Good → (xs : List X) (rest : List ℕ) → length xs < 2 ^ 16 → EachAfter key Good None xs → counted_read key read (counted spelled xs ++ rest) ≡ Ok (xs, rest)
counted_again {K} {X} key read spelled Good complete xs rest few good =
    ap (λ (bytes : List ℕ). counted_read key read bytes) (append_assoc (to_be_bytes w16 (length xs)) (flat_map spelled xs) rest)
    ∙ ap (λ (o : Option (ℕ × List ℕ)). field o >>= λ n. items_read key read None n.0 n.1) (count_again (length xs) (flat_map spelled xs ++ rest) few)
    ∙ items_again key read spelled Good complete xs None rest good

pub few_count_again : (n : ℕ) (rest : List ℕ) → n < 257 → few_count_read (to_be_bytes w16 n ++ rest) ≡ Ok (n, rest)
few_count_again n rest lt =
    ap (λ (o : Option (ℕ × List ℕ)). field o >>= λ m. require (not (nat_lt 256 m.0)) TooLarge m) (count_again n rest (omega (arith)))
    ∙ ap (λ (b : Bool). require b TooLarge (n, rest)) (is_few n lt)

pub few_again : {K X : Type 0} (key : X → K) (read : Option K → List ℕ → Read X) (spelled : X → List ℕ) (Good : Option K → X → Type 0) → IsComplete read spelled Good → (xs : List X) (rest : List ℕ) → length xs < 257 → EachAfter key Good None xs → few_read key read (counted spelled xs ++ rest) ≡ Ok (xs, rest)
few_again {K} {X} key read spelled Good complete xs rest few good =
    ap (λ (bytes : List ℕ). few_read key read bytes) (append_assoc (to_be_bytes w16 (length xs)) (flat_map spelled xs) rest)
    ∙ ap (λ (r : Read ℕ). r >>= λ n. items_read key read None n.0 n.1) (few_count_again (length xs) (flat_map spelled xs ++ rest) few)
    ∙ items_again key read spelled Good complete xs None rest good

-- ---- orders

-- it comes after the one before it, and is valid by itself
abbrev pub Comes : {K X : Type 0} → (K → K → Ordering) → (X → K) → (X → Type 0) → Option K → X → Type 0
Comes cmp key Is before x = (follows cmp before (key x) ≡ true) × Is x

pub each_rises : {K X : Type 0} (cmp : K → K → Ordering) (key : X → K) (Is : X → Type 0) (before : Option K) (xs : List X) → EachAfter key (Comes cmp key Is) before xs → rises_after cmp before (map key xs) ≡ true
each_rises cmp key Is before [] each = refl
each_rises cmp key Is before (x ∷ xs) each = both_true each.0.0 (each_rises cmp key Is (Some (key x)) xs each.1)

pub each_is : {K X : Type 0} (cmp : K → K → Ordering) (key : X → K) (Is : X → Type 0) (before : Option K) (xs : List X) → EachAfter key (Comes cmp key Is) before xs → AllByRecursion Is xs
each_is cmp key Is before [] each = tt
each_is cmp key Is before (x ∷ xs) each = (each.0.1, each_is cmp key Is (Some (key x)) xs each.1)

pub each_comes : {K X : Type 0} (cmp : K → K → Ordering) (key : X → K) (Is : X → Type 0) (before : Option K) (xs : List X) → rises_after cmp before (map key xs) ≡ true → AllByRecursion Is xs → EachAfter key (Comes cmp key Is) before xs
each_comes cmp key Is before [] rising all = tt
each_comes cmp key Is before (x ∷ xs) rising all = ((first_so _ _ rising, all.0), each_comes cmp key Is (Some (key x)) xs (second_so _ _ rising) all.1)
