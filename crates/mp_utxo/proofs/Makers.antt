-- Which transaction makes an output at a reference, if no id occurs twice.
use Rattle.std.proofs.Common.{◌≡◌, ◌≢◌, ℕ, zero, suc, Bool, true, false, ◌&&◌, not, cond, nat_eq, nat_lt, List, [], ◌∷◌, ◌++◌, length, if◌then◌else◌, refl, sym, ap, subst, ◌∙◌, inl, inr, ⊎_elim, arith}
use Rattle.std.specs.Prelude.{Option, None, Some, IsSome, is_some, AllPairs, slice_get, map}
use Rattle.std.specs.List.{AllByRecursion}
use Rattle.std.specs.Cmp.Lexicographic.{pointwise, bytes_decides}
use Rattle.std.proofs.lemmas.Bool.{false≢true}
use Rattle.std.proofs.lemmas.Option.{slice_get_past}
use Rattle.std.proofs.lemmas.List.Elements.{recursion_from_All, filter-append}
use Rattle.mp_tx.specs.declared.reference.OutRef.{OutRef}
use Rattle.mp_tx.specs.declared.output.Output.{Output}
use Rattle.mp_tx.specs.Transaction.{Transaction}
use Rattle.mp_tx.specs.Spelling.{id_of}
use Rattle.mp_utxo.specs.Apply.{output_made}
use Rattle.mp_utxo.specs.Leaf.{others}
use Rattle.mp_utxo.specs.Inside.Changes.{is_own}
use Rattle.mp_utxo.proofs.After.{Unmade, IsOr}
use Rattle.mp_utxo.proofs.Places.{In, all-at}

ne_true : (b : Bool) → (b ≡ true → ⊥) → b ≡ false
ne_true true h = absurd (h refl)
ne_true false h = refl

-- ---- one transaction and one reference

some_there : (b : Bool) (o : Option Output) → IsSome (if b then o else None) → (b ≡ true) × ((if b then o else None) ≡ o)
some_there true o h = (refl, refl)
some_there false o h = absurd (false≢true h)

-- its outputs are at its id
pub makes-id : (t : Transaction) (r : OutRef) → IsSome (output_made t r) → r.id ≡ id_of t
makes-id t r h = let s = some_there (pointwise nat_eq r.id (id_of t)) (slice_get t.outputs r.index) h in (bytes_decides r.id (id_of t)).0 s.0

pub makes-at : (t : Transaction) (r : OutRef) → IsSome (output_made t r) → output_made t r ≡ slice_get t.outputs r.index
makes-at t r h = let s = some_there (pointwise nat_eq r.id (id_of t)) (slice_get t.outputs r.index) h in s.1

some_at : {X : Type 0} (xs : List X) (k : ℕ) → nat_lt k (length xs) ≡ true → IsSome (slice_get xs k)
some_at [] k lt = absurd (grind (arith))
some_at (x ∷ xs) zero lt = refl
some_at (x ∷ xs) (suc k) lt = some_at xs k (grind (arith))

own_some : (t : Transaction) (r : OutRef) (b : Bool) → b && nat_lt r.index (length t.outputs) ≡ true → IsSome (if b then slice_get t.outputs r.index else None)
own_some t r true e = some_at t.outputs r.index e
own_some t r false e = absurd (false≢true e)

-- one of its outputs is there
pub own-made : (t : Transaction) (r : OutRef) → is_own (id_of t) (length t.outputs) r ≡ true → IsSome (output_made t r)
own-made t r e = own_some t r (pointwise nat_eq r.id (id_of t)) e

own_none : (t : Transaction) (r : OutRef) (b : Bool) → b && nat_lt r.index (length t.outputs) ≡ false → (if b then slice_get t.outputs r.index else None) ≡ None
own_none t r true e = slice_get_past t.outputs r.index (grind (arith))
own_none t r false e = refl

pub other-unmade : (t : Transaction) (r : OutRef) → is_own (id_of t) (length t.outputs) r ≡ false → output_made t r ≡ None
other-unmade t r e = own_none t r (pointwise nat_eq r.id (id_of t)) e

pub by-another : (t m : Transaction) (r : OutRef) → IsSome (output_made m r) → id_of t ≢ id_of m → output_made t r ≡ None
by-another t m r h ne = ap (λ (b : Bool). if b then slice_get t.outputs r.index else None)
    (ne_true (pointwise nat_eq r.id (id_of t)) (λ e. ne (sym ((bytes_decides r.id (id_of t)).0 e) ∙ makes-id m r h)))

-- ---- many transactions, with distinct ids

abbrev pub Apart : List Transaction → Type 0
Apart [] = Unit {0}
Apart (t ∷ ts) = AllByRecursion (λ y. id_of t ≢ id_of y) ts × Apart ts

unmapped : (P : List ℕ → Type 0) (ts : List Transaction) → AllByRecursion P (map id_of ts) → AllByRecursion (λ t. P (id_of t)) ts
unmapped P [] a = tt
unmapped P (t ∷ ts) a = (a.0, unmapped P ts a.1)

pub apart-ids : (ts : List Transaction) → AllPairs (λ a b. a ≢ b) (map id_of ts) → Apart ts
apart-ids [] h = tt
apart-ids (t ∷ ts) h =
    let ids : List (List ℕ) = map id_of ts in (
      unmapped (λ b. id_of t ≢ b) ts (recursion_from_All (λ b. id_of t ≢ b) ids (λ k d lt. h 0 (suc k) d (omega arith) (omega arith))),
      apart-ids ts (λ j k d lt within. h (suc j) (suc k) d (omega arith) (omega arith)),
    )

pub front : (P : Transaction → Type 0) (xs ys : List Transaction) → AllByRecursion P (xs ++ ys) → AllByRecursion P xs
front P [] ys a = tt
front P (x ∷ xs) ys a = (a.0, front P xs ys a.1)

pub back : (P : Transaction → Type 0) (xs ys : List Transaction) → AllByRecursion P (xs ++ ys) → AllByRecursion P ys
back P [] ys a = a
back P (x ∷ xs) ys a = back P xs ys a.1

pub both : (P : Transaction → Type 0) (xs ys : List Transaction) → AllByRecursion P xs → AllByRecursion P ys → AllByRecursion P (xs ++ ys)
both P [] ys a b = b
both P (x ∷ xs) ys a b = (a.0, both P xs ys a.1 b)

weaker : {P Q : Transaction → Type 0} → ((t : Transaction) → P t → Q t) → (ts : List Transaction) → AllByRecursion P ts → AllByRecursion Q ts
weaker f [] a = tt
weaker f (t ∷ ts) a = (f t a.0, weaker f ts a.1)

others_unmade : (m : Transaction) (r : OutRef) (ts : List Transaction) → IsSome (output_made m r) → AllByRecursion (λ y. id_of m ≢ id_of y) ts → Unmade ts r
others_unmade m r ts h a = weaker {P = λ y. id_of m ≢ id_of y} {Q = λ y. output_made y r ≡ None} (λ y ne. by-another y m r h (λ e. ne (sym e))) ts a

pub apart-back : (xs zs : List Transaction) → Apart (xs ++ zs) → Apart zs
apart-back [] zs a = a
apart-back (x ∷ xs) zs a = apart-back xs zs a.1

pub apart-front : (xs zs : List Transaction) → Apart (xs ++ zs) → Apart xs
apart-front [] zs a = tt
apart-front (x ∷ xs) zs a = (front (λ y. id_of x ≢ id_of y) xs zs a.0, apart-front xs zs a.1)

-- no transaction after its maker makes it
pub unmade-behind : (xs zs : List Transaction) (m : Transaction) (r : OutRef) → Apart (xs ++ zs) → In xs m → IsSome (output_made m r) → Unmade zs r
unmade-behind [] zs m r a h made = absurd h
unmade-behind (x ∷ xs) zs m r a h made = ⊎_elim
    (λ (e : x ≡ m). others_unmade x r zs (subst (λ (t : Transaction). IsSome (output_made t r)) (sym e) made) (back (λ y. id_of x ≢ id_of y) xs zs a.0))
    (λ (k : In xs m). unmade-behind xs zs m r a.1 k made) h

-- no transaction before its maker makes it
pub unmade-before : (xs zs : List Transaction) (m : Transaction) (r : OutRef) → Apart (xs ++ zs) → In zs m → IsSome (output_made m r) → Unmade xs r
unmade-before [] zs m r a h made = tt
unmade-before (x ∷ xs) zs m r a h made =
    (by-another x m r made (all-at (λ y. id_of x ≢ id_of y) zs m (back (λ y. id_of x ≢ id_of y) xs zs a.0) h), unmade-before xs zs m r a.1 h made)

-- only its maker makes an output there
pub one_maker : (xs : List Transaction) (m : Transaction) (r : OutRef) (o : Output) → Apart xs → In xs m → output_made m r ≡ Some o → AllByRecursion (λ t. IsOr o (output_made t r)) xs
one_maker [] m r o a h made = absurd h
one_maker (x ∷ xs) m r o a h made = ⊎_elim
    (λ (e : x ≡ m). let is : output_made x r ≡ Some o = ap (λ (t : Transaction). output_made t r) e ∙ made in
    (inr is, weaker {P = λ t. output_made t r ≡ None} {Q = λ t. IsOr o (output_made t r)} (λ t none. inl none) xs (others_unmade x r xs (ap is_some is) a.0)))
    (λ (k : In xs m). (inl (by-another x m r (ap is_some made) (all-at (λ y. id_of x ≢ id_of y) xs m a.0 k)), one_maker xs m r o a.1 k made)) h

-- the one with an id
pub sole : (ts : List Transaction) (a b : Transaction) → Apart ts → In ts a → In ts b → id_of a ≡ id_of b → a ≡ b
sole [] a b ne h k e = absurd h
sole (t ∷ ts) a b ne h k e = ⊎_elim
    (λ (ta : t ≡ a). ⊎_elim (λ (tb : t ≡ b). sym ta ∙ tb) (λ (l : In ts b). absurd (all-at (λ y. id_of t ≢ id_of y) ts b ne.0 l (ap (λ (z : Transaction). id_of z) ta ∙ e))) k)
    (λ (l : In ts a). ⊎_elim (λ (tb : t ≡ b). absurd (all-at (λ y. id_of t ≢ id_of y) ts a ne.0 l (ap (λ (z : Transaction). id_of z) tb ∙ sym e))) (λ (j : In ts b). sole ts a b ne.1 l j e) k) h

-- ---- the transactions with other ids

pub other_bytes : (a b : List ℕ) → (a ≢ b) → pointwise nat_eq a b ≡ false
other_bytes a b ne = ne_true (pointwise nat_eq a b) (λ e. ne ((bytes_decides a b).0 e))

others_all : (id : List ℕ) (ts : List Transaction) → AllByRecursion (λ y. id_of y ≢ id) ts → others id ts ≡ ts
others_all id [] a = refl
others_all id (t ∷ ts) a = ap (λ (b : Bool). cond (not b) (t ∷ others id ts) (others id ts)) (other_bytes (id_of t) id a.0) ∙ ap (λ (ys : List Transaction). t ∷ ys) (others_all id ts a.1)

pub before_it : (xs : List Transaction) (t : Transaction) (ys : List Transaction) → Apart (xs ++ t ∷ ys) → AllByRecursion (λ y. id_of y ≢ id_of t) xs
before_it [] t ys a = tt
before_it (x ∷ xs) t ys a = (all-at (λ y. id_of x ≢ id_of y) (t ∷ ys) t (back (λ y. id_of x ≢ id_of y) xs (t ∷ ys) a.0) (inl refl), before_it xs t ys a.1)

pub others-one : (xs : List Transaction) (t : Transaction) (ys : List Transaction) → Apart (xs ++ t ∷ ys) → others (id_of t) (xs ++ t ∷ ys) ≡ xs ++ ys
others-one xs t ys a =
    let behind = (apart-back xs (t ∷ ys) a).0 in
    let here : others (id_of t) (t ∷ ys) ≡ others (id_of t) ys = ap (λ (b : Bool). cond (not b) (t ∷ others (id_of t) ys) (others (id_of t) ys)) ((bytes_decides (id_of t) (id_of t)).1 refl) in
    filter-append (λ y. not (pointwise nat_eq (id_of y) (id_of t))) xs (t ∷ ys)
    ∙ ap (λ (zs : List Transaction). zs ++ others (id_of t) (t ∷ ys)) (others_all (id_of t) xs (before_it xs t ys a))
    ∙ ap (λ (zs : List Transaction). xs ++ zs) (here ∙ others_all (id_of t) ys (weaker {P = λ y. id_of t ≢ id_of y} {Q = λ y. id_of y ≢ id_of t} (λ y ne e. ne (sym e)) ys behind))
