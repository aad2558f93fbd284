-- Items in blocks, which are chunks or pages, and are seen as their items.
use Rattle.std.proofs.Common.{◌≡◌, ℕ, zero, suc, ◌<◌, ◌≤◌, true, false, cond, List, [], ◌∷◌, ◌++◌, length, take, drop, refl, sym, ap, ◌∙◌, subst, arith}
use Rattle.std.specs.Prelude.{not, nat_le, ◌||◌}
use Rattle.std.specs.List.{AllByRecursion, flat_map}
use Rattle.std.proofs.lemmas.Bool.{leb-true, leb-false, ne_eqb}
use Rattle.std.proofs.lemmas.List.Elements.{filter-append, recursion_from_All}
use Rattle.mp_tx.specs.Transaction.{Transaction}
use Rattle.mp_tickets.specs.Tickets.{IsRisingFrom, IsRising, has_ticket, after}
use Rattle.mp_tickets.proofs.Rising.{after-append, after-none, after-all}
use Rattle.mp_seqpool.specs.Prepared.{apart}
use Rattle.mp_seqpool.specs.Item.{item_of, items_of}
use Rattle.mp_seqpool.specs.declared.item.Item.{Item}
use Rattle.mp_versions.specs.Pages.{flattened, joined, IsFilled, IsPage, last_by, first_by, first_ticket, last_ticket}
use Rattle.mp_versions.proofs.Parts.{last_by-append, flattened-append, Climbs, FirstFails}

abbrev pub ticket_in : ℕ × Transaction → ℕ
ticket_in i = i.0

-- ---- parts of a strictly increasing list are strictly increasing

pub rising-left : (low : ℕ) (xs ys : List (ℕ × Transaction)) → IsRisingFrom low (xs ++ ys) → IsRisingFrom low xs
rising-left low [] ys r = tt
rising-left low (x ∷ xs) ys r = (r.0, rising-left x.0 xs ys r.1)

pub rising-right : (low : ℕ) (xs ys : List (ℕ × Transaction)) → IsRisingFrom low (xs ++ ys) → IsRisingFrom (last_by ticket_in low xs) ys
rising-right low [] ys r = r
rising-right low (x ∷ xs) ys r = rising-right x.0 xs ys r.1

pub rising-zero : (low : ℕ) (xs : List (ℕ × Transaction)) → IsRisingFrom low xs → IsRising xs
rising-zero low [] r = tt
rising-zero low (x ∷ xs) r = let k = r.0 in (omega arith, r.1)

pub rising_before : (xs ys : List (ℕ × Transaction)) → IsRising (xs ++ ys) → IsRising xs
rising_before xs ys r = rising-left 0 xs ys r

pub rising_behind : (xs ys : List (ℕ × Transaction)) → IsRising (xs ++ ys) → IsRising ys
rising_behind xs ys r = rising-zero (last_by ticket_in 0 xs) ys (rising-right 0 xs ys r)

pub at_least : (low : ℕ) (xs : List (ℕ × Transaction)) → IsRisingFrom low xs → low ≤ last_by ticket_in low xs
at_least low [] r = omega arith
at_least low (x ∷ xs) r = let k = r.0 in let h = at_least x.0 xs r.1 in omega arith

pub above : (low m : ℕ) (xs : List (ℕ × Transaction)) → m ≤ low → IsRisingFrom low xs → AllByRecursion (λ x. m < x.0) xs
above low m [] h r = tt
above low m (x ∷ xs) h r = let k = r.0 in (omega arith, above x.0 m xs (omega arith) r.1)

pub below : (low m : ℕ) (xs : List (ℕ × Transaction)) → IsRisingFrom low xs → last_by ticket_in low xs ≤ m → AllByRecursion (λ x. x.0 ≤ m) xs
below low m [] r h = tt
below low m (x ∷ xs) r h = let k = at_least x.0 xs r.1 in (omega arith, below x.0 m xs r.1 h)

-- ---- blocks, each seen as its items, with its last ticket

module _ {B : Type 0} (items : B → List (ℕ × Transaction)) (last : B → ℕ) where
  -- it has items, and the last one has this ticket
  abbrev pub Ends : B → Type 0
  Ends b = (low : ℕ) → last_by ticket_in low (items b) ≡ last b

  pub all_ends : (P : B → Type 0) → ((b : B) → P b → Ends b) → (bs : List B) → AllByRecursion P bs → AllByRecursion Ends bs
  all_ends P h [] a = tt
  all_ends P h (b ∷ bs) a = (h b a.0, all_ends P h bs a.1)

  pub blocks_climb : (low : ℕ) (bs : List B) → AllByRecursion Ends bs → IsRisingFrom low (flat_map items bs) → Climbs last low bs
  blocks_climb low [] e r = tt
  blocks_climb low (b ∷ bs) e r =
      let h = at_least low (items b) (rising-left low (items b) (flat_map items bs) r) in
      let l = e.0 low in
      (omega arith, blocks_climb (last b) bs e.1 (subst (λ n. IsRisingFrom n (flat_map items bs)) l (rising-right low (items b) (flat_map items bs) r)))

  -- what remains of the first block, and the blocks after it
  abbrev pub after_first : ℕ → List B → List (ℕ × Transaction)
  after_first t [] = []
  after_first t (b ∷ bs) = after (items b) t ++ flat_map items bs

  pub after_blocks : (low t : ℕ) (bs : List B) (i : ℕ) → AllByRecursion Ends bs → IsRisingFrom low (flat_map items bs)
      → AllByRecursion (λ b. nat_le (last b) t ≡ true) (take i bs) → FirstFails (λ b. nat_le (last b) t) (drop i bs)
      → after (flat_map items bs) t ≡ after_first t (drop i bs)
  after_blocks low t [] zero e r p f = refl
  after_blocks low t [] (suc i) e r p f = refl
  after_blocks low t (b ∷ bs) zero e r p f =
      let l = e.0 low in
      let k = leb-false (last b) t f in
      after-append t (items b) (flat_map items bs)
      ∙ ap (λ xs. after (items b) t ++ xs) (after-all t (flat_map items bs) (above (last_by ticket_in low (items b)) t (flat_map items bs) (omega arith) (rising-right low (items b) (flat_map items bs) r)))
  after_blocks low t (b ∷ bs) (suc i) e r p f =
      let l = e.0 low in
      let k = leb-true (last b) t p.0 in
      after-append t (items b) (flat_map items bs)
      ∙ ap (λ xs. xs ++ after (flat_map items bs) t) (after-none t (items b) (below low t (items b) (rising-left low (items b) (flat_map items bs) r) (omega arith)))
      ∙ after_blocks (last_by ticket_in low (items b)) t bs i e.1 (rising-right low (items b) (flat_map items bs) r) p.1 f

-- ---- items of a chunk

pub items_climb : (low : ℕ) (xs : List Item) → IsRisingFrom low (items_of xs) → Climbs (λ i. i.ticket) low xs
items_climb low [] r = tt
items_climb low (x ∷ xs) r = let k = r.0 in (omega arith, items_climb x.ticket xs r.1)

pub after_items : (low t : ℕ) (xs : List Item) (i : ℕ) → IsRisingFrom low (items_of xs)
    → AllByRecursion (λ x. nat_le x.ticket t ≡ true) (take i xs) → FirstFails (λ x. nat_le x.ticket t) (drop i xs)
    → items_of (drop i xs) ≡ after (items_of xs) t
after_items low t [] zero r p f = refl
after_items low t [] (suc i) r p f = refl
after_items low t (x ∷ xs) zero r p f =
    let k = leb-false x.ticket t f in
    sym (after-all t (items_of (x ∷ xs)) (k, above x.ticket t (items_of xs) (omega arith) r.1))
after_items low t (x ∷ xs) (suc i) r p f =
    let k = leb-true x.ticket t p.0 in
    after_items x.ticket t xs i r.1 p.1 f ∙ sym (after-append t (item_of x ∷ []) (items_of xs) ∙ ap (λ l. l ++ after (items_of xs) t) (after-none t (item_of x ∷ []) (k, tt)))

-- ---- chunks and pages end with their last tickets

pub chunk_ends : (c : List (ℕ × Transaction)) → IsFilled c → (low : ℕ) → last_by ticket_in low c ≡ last_ticket c
chunk_ends [] f low = let h = f.least in let none : length {A = ℕ × Transaction} [] ≡ 0 = refl in absurd (omega arith)
chunk_ends (i ∷ is) f low = refl

chunks_end : (low : ℕ) (p : List (List (ℕ × Transaction))) → AllByRecursion IsFilled p → last_by ticket_in low (flattened p) ≡ last_by last_ticket low p
chunks_end low [] f = refl
chunks_end low (c ∷ cs) f =
    last_by-append ticket_in low c (flattened cs) ∙ ap (λ n. last_by ticket_in n (flattened cs)) (chunk_ends c f.0 low) ∙ chunks_end (last_ticket c) cs f.1

pub page_ends : (p : List (List (ℕ × Transaction))) → IsPage p → (low : ℕ) → last_by ticket_in low (flattened p) ≡ last_by last_ticket 0 p
page_ends [] f low = let h = f.filled.least in let none : length {A = List (ℕ × Transaction)} [] ≡ 0 = refl in absurd (omega arith)
page_ends (c ∷ cs) f low = chunks_end low (c ∷ cs) (recursion_from_All IsFilled (c ∷ cs) f.chunks)

pub pages_end : (low : ℕ) (ps : List (List (List (ℕ × Transaction)))) → AllByRecursion IsPage ps → last_by ticket_in low (joined ps) ≡ last_by (last_by last_ticket 0) low ps
pages_end low [] f = refl
pages_end low (p ∷ ps) f =
    ap (last_by ticket_in low) (flattened-append p (flattened ps)) ∙ last_by-append ticket_in low (flattened p) (joined ps)
    ∙ ap (λ n. last_by ticket_in n (joined ps)) (page_ends p f.0 low) ∙ pages_end (last_by last_ticket 0 p) ps f.1

-- ---- what loses nothing

-- each has a ticket from the first to the last
abbrev pub Spans : ℕ → ℕ → List (ℕ × Transaction) → Type 0
Spans first last xs = AllByRecursion (λ x. (first ≤ x.0) × (x.0 ≤ last)) xs

spans-from : (first last low : ℕ) (xs : List (ℕ × Transaction)) → first ≤ low → IsRisingFrom low xs → last_by ticket_in low xs ≤ last → Spans first last xs
spans-from first last low [] h r l = tt
spans-from first last low (x ∷ xs) h r l = let k = r.0 in let m = at_least x.0 xs r.1 in ((omega arith, omega arith), spans-from first last x.0 xs (omega arith) r.1 l)

pub chunk_spans : (c : List (ℕ × Transaction)) → IsRising c → Spans (first_ticket c) (last_ticket c) c
chunk_spans [] r = tt
chunk_spans (i ∷ is) r = let m = at_least i.0 is r.1 in ((omega arith, m), spans-from i.0 (last_by ticket_in i.0 is) i.0 is (omega arith) r.1 (omega arith))

pub pages_span : (ps : List (List (List (ℕ × Transaction)))) → AllByRecursion IsPage ps → IsRising (joined ps) → Spans 0 (last_by (last_by last_ticket 0) 0 ps) (joined ps)
pages_span ps f r = let e = pages_end 0 ps f in spans-from 0 (last_by (last_by last_ticket 0) 0 ps) 0 (joined ps) (omega arith) r (omega (arith, e))

first_in : (p : List (List (ℕ × Transaction))) → IsPage p → first_ticket (flattened p) ≡ first_by first_ticket p
first_in [] f = refl
first_in ([] ∷ cs) f =
    let h = (recursion_from_All IsFilled ([] ∷ cs) f.chunks).0.least in let none : length {A = ℕ × Transaction} [] ≡ 0 = refl in absurd (omega arith)
first_in ((i ∷ is) ∷ cs) f = refl

pub page_spans : (p : List (List (ℕ × Transaction))) → IsPage p → IsRising (flattened p) → Spans (first_by first_ticket p) (last_by last_ticket 0 p) (flattened p)
page_spans p f r =
    subst (λ n. Spans n (last_by last_ticket 0 p) (flattened p)) (first_in p f)
    (subst (λ n. Spans (first_ticket (flattened p)) n (flattened p)) (page_ends p f 0) (chunk_spans (flattened p) r))

pub spans_as : (a b l m : ℕ) (xs : List (ℕ × Transaction)) → a ≡ b → l ≡ m → Spans a l xs → Spans b m xs
spans_as a b l m xs e f s = subst (λ n. Spans b n xs) f (subst (λ n. Spans n l xs) e s)

has_not : (n : ℕ) (ts : List ℕ) → AllByRecursion (λ t. t ≡ n → ⊥) ts → has_ticket ts n ≡ false
has_not n [] a = refl
has_not n (t ∷ ts) a = ap (λ b. b || has_ticket ts n) (ne_eqb t n a.0) ∙ has_not n ts a.1

differ : (first last n : ℕ) (ts : List ℕ) → first ≤ n → n ≤ last → AllByRecursion (λ t. first ≤ t → t ≤ last → ⊥) ts → AllByRecursion (λ t. t ≡ n → ⊥) ts
differ first last n [] f l a = tt
differ first last n (t ∷ ts) f l a = ((λ e. a.0 (omega arith) (omega arith)), differ first last n ts f l a.1)

pub untouched : (first last : ℕ) (ts : List ℕ) (xs : List (ℕ × Transaction)) → Spans first last xs → AllByRecursion (λ t. first ≤ t → t ≤ last → ⊥) ts → apart ts xs ≡ xs
untouched first last ts [] s a = refl
untouched first last ts (x ∷ xs) s a =
    ap (λ b. cond (not b) (x ∷ apart ts xs) (apart ts xs)) (has_not x.0 ts (differ first last x.0 ts s.0.0 s.0.1 a)) ∙ ap (λ l. x ∷ l) (untouched first last ts xs s.1 a)

pub apart-append : (ts : List ℕ) (xs ys : List (ℕ × Transaction)) → apart ts (xs ++ ys) ≡ apart ts xs ++ apart ts ys
apart-append ts xs ys = filter-append (λ i. not (has_ticket ts i.0)) xs ys
