-- Items by tickets, and their bytes.
use Rattle.std.proofs.Common.{◌≡◌, ℕ, zero, suc, ◌+◌, ◌-◌, ◌<◌, ◌≤◌, Bool, true, false, cond, List, [], ◌∷◌, ◌++◌, length, drop, Option, Some, None, refl, sym, ap, ◌∙◌, inl, inr, subst, arith}
use Rattle.std.specs.Prelude.{◌==◌, ◌||◌, nat_lt, slice_get}
use Rattle.std.specs.List.{AllByRecursion}
use Rattle.std.proofs.lemmas.Bool.{eq-eqb, ne_eqb, eqb-false, ltb-true, ltb-false, cases_eq}
use Rattle.mp_tx.specs.Transaction.{Transaction}
use Rattle.mp_tx.specs.Spelling.{size_of}
use Rattle.mp_tickets.specs.Tickets.{IsRisingFrom, IsRising, has_ticket, item_at, after, among}
use Rattle.mp_tickets.proofs.Rising.{not_after, item_at-none}
use Rattle.mp_seqpool.specs.Keep.{bytes_of}
use Rattle.mp_versions.specs.Pages.{size_in}
use mathlib.Core.Logic.{◌⊎◌}
use Rattle.mp_versions.proofs.Ascents.{Ascends}
use Rattle.mp_versions.proofs.Blocks.{above}
use Rattle.mp_versions.proofs.Withins.{more_bytes}

-- the first item, if it has this ticket
abbrev pub first_under : ℕ → List (ℕ × Transaction) → Option Transaction
first_under t [] = None
first_under t (x ∷ xs) = cond (x.0 == t) (Some x.1) None

pub none_at_zero : (xs : List (ℕ × Transaction)) → IsRising xs → item_at xs 0 ≡ None
none_at_zero xs r = item_at-none 0 xs (not_after 0 xs (above 0 0 xs (omega arith) r))

none_above : (low t : ℕ) (xs : List (ℕ × Transaction)) → t ≤ low → IsRisingFrom low xs → item_at xs t ≡ None
none_above low t xs h r = item_at-none t xs (not_after t xs (above low t xs h r))

same_where : (c : Bool) (x : Transaction) (o : Option Transaction) → (c ≡ false → o ≡ None) → cond c (Some x) o ≡ cond c (Some x) None
same_where true x o h = refl
same_where false x o h = h refl

-- it is the first of those with at least this ticket
found_step : (b : Bool) (t : ℕ) (x : ℕ × Transaction) (xs : List (ℕ × Transaction)) → nat_lt (t - 1) x.0 ≡ b → 0 < t → IsRisingFrom x.0 xs
    → item_at xs t ≡ first_under t (after xs (t - 1)) → item_at (x ∷ xs) t ≡ first_under t (cond b (x ∷ after xs (t - 1)) (after xs (t - 1)))
found_step true t x xs e p r ih =
    let k = ltb-true (t - 1) x.0 e in
    same_where (x.0 == t) x.1 (item_at xs t) (λ f. let ne = eqb-false x.0 t f in none_above x.0 t xs (omega arith) r)
found_step false t x xs e p r ih =
    let k = ltb-false (t - 1) x.0 e in
    ap (λ c. cond c (Some x.1) (item_at xs t)) (ne_eqb x.0 t (λ q. omega arith)) ∙ ih

pub found : (low t : ℕ) (xs : List (ℕ × Transaction)) → 0 < t → IsRisingFrom low xs → item_at xs t ≡ first_under t (after xs (t - 1))
found low t [] p r = refl
found low t (x ∷ xs) p r = found_step (nat_lt (t - 1) x.0) t x xs refl p r.1 (found x.0 t xs p r.1)

-- ---- bytes

less_step : (c : Bool) (x : ℕ × Transaction) (ys xs : List (ℕ × Transaction)) → bytes_of ys ≤ bytes_of xs → bytes_of (cond c (x ∷ ys) ys) ≤ bytes_of (x ∷ xs)
less_step true x ys xs h = let m = more_bytes x ys in let n = more_bytes x xs in omega arith
less_step false x ys xs h = let n = more_bytes x xs in omega arith

pub no_more : (ts : List ℕ) (xs : List (ℕ × Transaction)) → bytes_of (among ts xs) ≤ bytes_of xs
no_more ts [] = omega arith
no_more ts (x ∷ xs) = less_step (has_ticket ts x.0) x (among ts xs) xs (no_more ts xs)

pub among_none : (xs : List (ℕ × Transaction)) → among [] xs ≡ []
among_none [] = refl
among_none (x ∷ xs) = among_none xs

either_way : (c : Bool) (x : ℕ × Transaction) (s : ℕ) (ys bs : List (ℕ × Transaction)) → bytes_of ys ≡ s + bytes_of bs → bytes_of (cond c (x ∷ ys) ys) ≡ s + bytes_of (cond c (x ∷ bs) bs)
either_way true x s ys bs h = let m = more_bytes x ys in let n = more_bytes x bs in omega arith
either_way false x s ys bs h = h

pub one_more : (low t : ℕ) (ts : List ℕ) (xs : List (ℕ × Transaction)) → IsRisingFrom low xs → has_ticket ts t ≡ false → bytes_of (among (t ∷ ts) xs) ≡ size_in (item_at xs t) + bytes_of (among ts xs)
one_more low t ts [] r n = refl
one_more low t ts (x ∷ xs) r n =
    let ih = one_more x.0 t ts xs r.1 n in
    elim (cases_eq t x.0) as (λ (_ : (t ≡ x.0) ⊎ (t ≡ x.0 → ⊥)). bytes_of (among (t ∷ ts) (x ∷ xs)) ≡ size_in (item_at (x ∷ xs) t) + bytes_of (among ts (x ∷ xs))) [
      | inl e ↦
          let here : has_ticket (t ∷ ts) x.0 ≡ true = ap (λ b. b || has_ticket ts x.0) (eq-eqb t x.0 e) in
          let left : bytes_of (among (t ∷ ts) (x ∷ xs)) ≡ bytes_of (x ∷ among (t ∷ ts) xs) = ap (λ b. bytes_of (cond b (x ∷ among (t ∷ ts) xs) (among (t ∷ ts) xs))) here in
          let gone : has_ticket ts x.0 ≡ false = ap (λ u. has_ticket ts u) (sym e) ∙ n in
          let right : bytes_of (among ts (x ∷ xs)) ≡ bytes_of (among ts xs) = ap (λ b. bytes_of (cond b (x ∷ among ts xs) (among ts xs))) gone in
          let it : size_in (item_at (x ∷ xs) t) ≡ size_of x.1 = ap (λ b. size_in (cond b (Some x.1) (item_at xs t))) (eq-eqb x.0 t (sym e)) in
          let none : size_in (item_at xs t) ≡ 0 = ap size_in (none_above x.0 t xs (omega arith) r.1) in
          let m = more_bytes x (among (t ∷ ts) xs) in
          omega arith
      | inr ne ↦
          let same : has_ticket (t ∷ ts) x.0 ≡ has_ticket ts x.0 = ap (λ b. b || has_ticket ts x.0) (ne_eqb t x.0 ne) in
          let it : size_in (item_at (x ∷ xs) t) ≡ size_in (item_at xs t) = ap (λ b. size_in (cond b (Some x.1) (item_at xs t))) (ne_eqb x.0 t (λ q. ne (sym q))) in
          ap (λ b. bytes_of (cond b (x ∷ among (t ∷ ts) xs) (among (t ∷ ts) xs))) same
          ∙ either_way (has_ticket ts x.0) x (size_in (item_at xs t)) (among (t ∷ ts) xs) (among ts xs) ih
          ∙ ap (λ s. s + bytes_of (among ts (x ∷ xs))) (sym it)
    ]

-- ---- indices

pub get_front : {X : Type 0} (xs ys : List X) (i : ℕ) (x : X) → slice_get xs i ≡ Some x → slice_get (xs ++ ys) i ≡ Some x
get_front [] ys i x e = let f : None ≡ Some x = e in absurd (grind arith)
get_front (y ∷ xs) ys zero x e = e
get_front (y ∷ xs) ys (suc i) x e = get_front xs ys i x e

pub get_behind : {X : Type 0} (xs ys : List X) (i j : ℕ) → i ≡ length xs + j → slice_get (xs ++ ys) i ≡ slice_get ys j
get_behind [] ys i j e = ap (λ n. slice_get ys n) (omega arith)
get_behind (y ∷ xs) ys zero j e = let more : length (y ∷ xs) ≡ suc (length xs) = refl in absurd (omega arith)
get_behind (y ∷ xs) ys (suc i) j e = let more : length (y ∷ xs) ≡ suc (length xs) = refl in get_behind xs ys i j (omega arith)

-- a ticket isn't among those that are all greater
not_greater : (t : ℕ) (ts : List ℕ) → AllByRecursion (λ u. t < u) ts → has_ticket ts t ≡ false
not_greater t [] a = refl
not_greater t (u ∷ us) a = let k = a.0 in ap (λ b. b || has_ticket us t) (ne_eqb u t (λ e. omega arith)) ∙ not_greater t us a.1

-- the bytes of the ticket at the index and of those after it
pub ticket_step : (ts rest : List ℕ) (i t : ℕ) (xs : List (ℕ × Transaction)) → IsRising xs → Ascends (drop i ts) → drop i ts ≡ t ∷ rest
    → bytes_of (among (drop i ts) xs) ≡ size_in (item_at xs t) + bytes_of (among rest xs)
ticket_step ts rest i t xs r s e =
    ap (λ us. bytes_of (among us xs)) e ∙ one_more 0 t rest xs r (not_greater t rest (subst Ascends e s).0)
