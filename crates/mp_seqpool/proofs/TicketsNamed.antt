-- The tickets of ids, in order and without repetitions, are those of the items with these ids.
use Rattle.std.proofs.Common.{◌≡◌, ◌≢◌, ℕ, ◌<◌, ◌≤◌, Bool, true, false, cond, ◌||◌, ◌+◌, List, [], ◌∷◌, ◌++◌, length, get_or, take, inl, inr, refl, sym, ap, subst, ◌∙◌, eqb, arith}
use Rattle.std.specs.Prelude.{Option, None, Some, map, nat_eq, All, AllPairs, Contains}
use Rattle.std.specs.List.{AllByRecursion, filter_map, cons_option, dedup}
use Rattle.std.specs.List.Sorted.{IsSorted, IsPermutation, IsStrictlyIncreasing}
use Rattle.std.specs.Ordering.{nat_cmp}
use Rattle.std.specs.Cmp.Lexicographic.{pointwise, bytes_decides}
use Rattle.std.proofs.lemmas.Bool.{true≢false, false_from_ne_true, eq-eqb, ne_eqb, eqb-true, or_cases, cases_lt}
use Rattle.std.proofs.lemmas.List.{get_or_default, get_or-take, length-take, take_more, append-nil}
use Rattle.std.proofs.lemmas.List.Elements.{All-from_recursion, recursion_from_All, filter_map-append}
use Rattle.std.proofs.lemmas.List.Folds.{Any-from_list_any, list_any_at}
use Rattle.std.proofs.lemmas.List.Sorted.{list_any-IsPermutation}
use Rattle.std.proofs.lemmas.List.Kept.{AllPairs-cons, AllPairs-from_increasing, Contains-dedup_nat, Contains-from_dedup}
use Rattle.std.proofs.lemmas.Map.Keys.{IsStrictlyIncreasing-dedup}
use Rattle.mp_tx.specs.Transaction.{Transaction}
use Rattle.mp_tx.specs.Spelling.{id_of}
use Rattle.mp_tickets.specs.Tickets.{IsRisingFrom, IsRising, has_ticket}
use Rattle.mp_seqpool.specs.Keep.{transactions, tickets, is_named, named}
use Rattle.mp_seqpool.specs.SlowPool.{ticket_of}
use Rattle.mp_seqpool.proofs.Apart.{all_above, not_among, rising_filter}
use Rattle.mp_seqpool.proofs.Dependents.{weaker, unlike}
use Rattle.mp_seqpool.proofs.Distinct.{absent}
use Rattle.mp_seqpool.proofs.Keeping.{AllPairs-nil, AllPairs-head, AllPairs-tail}

abbrev Items : Type 0
Items = List (ℕ × Transaction)

abbrev pub Rise : List ℕ → Type 0
Rise = AllPairs (λ a b. a < b)

-- ---- tests

or_nothing : (b : Bool) → (b || false) ≡ b
or_nothing true = refl
or_nothing false = refl

pub same_test : (a b : Bool) → (a ≡ true → b ≡ true) → (b ≡ true → a ≡ true) → a ≡ b
same_test true b f g = sym (f refl)
same_test false b f g = sym (false_from_ne_true b (λ e. true≢false (sym (g e))))

-- ---- strictly increasing lists with the same tickets

least : (n m : ℕ) (ns : List ℕ) → Rise (n ∷ ns) → has_ticket (n ∷ ns) m ≡ true → n ≤ m
least n m ns rise has = elim (or_cases (nat_eq n m) (has_ticket ns m) has) [
  | inl first ↦ let same : n ≡ m = eqb-true n m first in omega arith
  | inr later ↦
      let any = Any-from_list_any (λ t. nat_eq t m) ns later in
      let lower : n < any.1 = subst (λ k. n < k) any.3 (AllPairs-head (λ a b. a < b) n ns rise any.0 any.1 any.2) in
      let same : any.1 ≡ m = eqb-true any.1 m any.4 in
      omega arith
]

pub has_first : (n : ℕ) (ns : List ℕ) → has_ticket (n ∷ ns) n ≡ true
has_first n ns = ap (λ b. b || has_ticket ns n) (eq-eqb n n refl)

-- it isn't among greater ones
pub has_none : (n m : ℕ) (ns : List ℕ) → Rise (n ∷ ns) → m ≤ n → has_ticket ns m ≡ false
has_none n m ns rise le =
    not_among m ns (weaker (λ k. n < k) (λ k. m < k) (λ k lt. omega arith) ns (recursion_from_All (λ k. n < k) ns (AllPairs-head (λ a b. a < b) n ns rise)))

pub has_later : (n m : ℕ) (ns : List ℕ) → n < m → has_ticket (n ∷ ns) m ≡ has_ticket ns m
has_later n m ns lt = ap (λ b. b || has_ticket ns m) (ne_eqb n m (λ e. omega arith))

same_rest : (x y : ℕ) (xs ys : List ℕ) → Rise (x ∷ xs) → Rise (y ∷ ys) → x ≡ y → ((n : ℕ) → has_ticket (x ∷ xs) n ≡ has_ticket (y ∷ ys) n) → (n : ℕ) → has_ticket xs n ≡ has_ticket ys n
same_rest x y xs ys up too e same n = elim (cases_lt x n) [
  | inr le ↦ has_none x n xs up le ∙ sym (has_none y n ys too (omega arith))
  | inl lt ↦ sym (has_later x n xs lt) ∙ same n ∙ has_later y n ys (omega arith)
]

pub same_rising : (xs ys : List ℕ) → Rise xs → Rise ys → ((n : ℕ) → has_ticket xs n ≡ has_ticket ys n) → xs ≡ ys
same_rising [] [] up too same = refl
same_rising [] (y ∷ ys) up too same = absurd (true≢false (sym (has_first y ys) ∙ sym (same y)))
same_rising (x ∷ xs) [] up too same = absurd (true≢false (sym (has_first x xs) ∙ same x))
same_rising (x ∷ xs) (y ∷ ys) up too same =
    let under : y ≤ x = least y x ys too (sym (same x) ∙ has_first x xs) in
    let over : x ≤ y = least x y xs up (same y ∙ has_first y ys) in
    let first : x ≡ y = omega arith in
    let rest = same_rising xs ys (AllPairs-tail (λ a b. a < b) x xs up) (AllPairs-tail (λ a b. a < b) y ys too) (same_rest x y xs ys up too first same) in
    ap (λ n. n ∷ xs) first ∙ ap (λ l. y ∷ l) rest

-- those before an index are less than the one there
pub below_next : (xs : List ℕ) (k : ℕ) (so_far : List ℕ) → IsStrictlyIncreasing xs → k < length xs → so_far ≡ take k xs → All (λ n. n < get_or xs k 0) so_far
below_next xs k so_far rise lt is =
    subst (All (λ n. n < get_or xs k 0)) (sym is) (λ j d within.
    let less : j < k = omega (arith, length-take k xs) in
    let lower : get_or xs j 0 < get_or xs k 0 = AllPairs-from_increasing xs rise j k 0 less lt in
    let seen : get_or (take k xs) j d ≡ get_or xs j d = get_or-take k xs j d less in
    let same : get_or xs j d ≡ get_or xs j 0 = get_or_default xs j d 0 (omega arith) in
    omega arith)

-- ---- those with one of these ids

split : (p q h : Bool) (a b c : Bool) → a ≡ (b || c) → cond (p || q) (h || a) a ≡ (cond p (h || b) b || cond q (h || c) c)
split true true true a b c e = refl
split true true false a b c e = e
split true false true a b c e = refl
split true false false a b c e = e
split false true true a true c e = refl
split false true true a false c e = refl
split false true false a b c e = e
split false false h a b c e = e

has_cond : (b : Bool) (i : ℕ × Transaction) (is : Items) (n : ℕ) → has_ticket (tickets (cond b (i ∷ is) is)) n ≡ cond b (nat_eq i.0 n || has_ticket (tickets is) n) (has_ticket (tickets is) n)
has_cond true i is n = refl
has_cond false i is n = refl

has_either : (id : List ℕ) (ids : List (List ℕ)) (items : Items) (n : ℕ)
    → has_ticket (tickets (named (id ∷ ids) items)) n ≡ (has_ticket (tickets (named (id ∷ []) items)) n || has_ticket (tickets (named ids items)) n)
has_either id ids [] n = refl
has_either id ids (i ∷ is) n =
    let p : Bool = pointwise nat_eq (id_of i.1) id in
    let q : Bool = is_named ids i.1 in
    let a : Items = named (id ∷ ids) is in
    let b : Items = named (id ∷ []) is in
    let c : Items = named ids is in
    has_cond (p || q) i a n
    ∙ split p q (nat_eq i.0 n) (has_ticket (tickets a) n) (has_ticket (tickets b) n) (has_ticket (tickets c) n) (has_either id ids is n)
    ∙ sym (ap (λ v. v || has_ticket (tickets (cond q (i ∷ c) c)) n) (has_cond (p || false) i b n ∙ ap (λ v. cond v (nat_eq i.0 n || has_ticket (tickets b) n) (has_ticket (tickets b) n)) (or_nothing p))
    ∙ ap (λ v. cond p (nat_eq i.0 n || has_ticket (tickets b) n) (has_ticket (tickets b) n) || v) (has_cond q i c n))

none_named : (items : Items) → named [] items ≡ []
none_named [] = refl
none_named (i ∷ is) = none_named is

-- ---- one id

-- one id names exactly the transactions that have it
named_by : (id : List ℕ) (t : Transaction) → is_named (id ∷ []) t ≡ pointwise nat_eq (id_of t) id
named_by id t = or_nothing (pointwise nat_eq (id_of t) id)

others_named : (id : List ℕ) (items : Items) → AllByRecursion (λ other. id ≢ other) (map id_of (transactions items)) → named (id ∷ []) items ≡ []
others_named id [] differ = refl
others_named id (i ∷ is) differ =
    let other = differ.0 in
    ap (λ b. cond b (i ∷ named (id ∷ []) is) (named (id ∷ []) is)) (named_by id i.1 ∙ unlike (id_of i.1) id (λ e. other (sym e)))
    ∙ others_named id is differ.1

-- if no item has it, it names none
unknown_named : (id : List ℕ) (items : Items) → ticket_of id items ≡ None → named (id ∷ []) items ≡ []
unknown_named id items none =
    let ids = map id_of (transactions items) in
    others_named id items (recursion_from_All (λ other. id ≢ other) ids (λ k d lt. λ e. absent id items none k d lt (sym e)))

-- the ticket of the id is that of the first item with it, and the only one
known_named : (id : List ℕ) (items : Items) (ticket : ℕ) → AllPairs (λ a b. a ≢ b) (map id_of (transactions items)) → ticket_of id items ≡ Some ticket → tickets (named (id ∷ []) items) ≡ ticket ∷ []
known_named id [] ticket distinct under = absurd (let f = under in Prim.cc)
known_named id (i ∷ is) ticket distinct under = elim (pointwise nat_eq id (id_of i.1)) as (λ b. pointwise nat_eq id (id_of i.1) ≡ b → cond b (Some i.0) (ticket_of id is) ≡ Some ticket → tickets (named (id ∷ []) (i ∷ is)) ≡ ticket ∷ []) [
  | true ↦ λ h e.
      let same : id ≡ id_of i.1 = (bytes_decides id (id_of i.1)).0 h in
      let ids = map id_of (transactions is) in
      let first : i.0 ≡ ticket = Prim.cc in
      ap (λ b. tickets (cond b (i ∷ named (id ∷ []) is) (named (id ∷ []) is))) (named_by id i.1 ∙ (bytes_decides (id_of i.1) id).1 (sym same))
      ∙ ap (λ l. i.0 ∷ tickets l) (ap (λ d. named (d ∷ []) is) same ∙ others_named (id_of i.1) is (recursion_from_All (λ other. id_of i.1 ≢ other) ids (AllPairs-head (λ a b. a ≢ b) (id_of i.1) ids distinct)))
      ∙ ap (λ k. k ∷ []) first
  | false ↦ λ h e.
      ap (λ b. tickets (cond b (i ∷ named (id ∷ []) is) (named (id ∷ []) is)))
      (named_by id i.1 ∙ unlike (id_of i.1) id (λ same. absurd (let f = sym h ∙ (bytes_decides id (id_of i.1)).1 (sym same) in Prim.cc)))
      ∙ known_named id is ticket (AllPairs-tail (λ a b. a ≢ b) (id_of i.1) (map id_of (transactions is)) distinct) e
] refl under

-- ---- all ids

module _ (items : Items) (distinct : AllPairs (λ a b. a ≢ b) (map id_of (transactions items))) where
  with_first : (id : List ℕ) (o : Option ℕ) (found : List ℕ) (n : ℕ) → ticket_of id items ≡ o → has_ticket (cons_option o found) n ≡ (has_ticket (tickets (named (id ∷ []) items)) n || has_ticket found n)
  with_first id None found n is = sym (ap (λ l. has_ticket (tickets l) n || has_ticket found n) (unknown_named id items is))
  with_first id (Some ticket) found n is =
      ap (λ b. b || has_ticket found n) (sym (or_nothing (nat_eq ticket n))) ∙ sym (ap (λ l. has_ticket l n || has_ticket found n) (known_named id items ticket distinct is))

  -- the tickets of the ids are those of the items that they name
  found_named : (ids : List (List ℕ)) (n : ℕ) → has_ticket (filter_map (λ id. ticket_of id items) ids) n ≡ has_ticket (tickets (named ids items)) n
  found_named [] n = sym (ap (λ l. has_ticket (tickets l) n) (none_named items))
  found_named (id ∷ ids) n =
      with_first id (ticket_of id items) (filter_map (λ id. ticket_of id items) ids) n refl
      ∙ ap (λ b. has_ticket (tickets (named (id ∷ []) items)) n || b) (found_named ids n)
      ∙ sym (has_either id ids items n)

-- ---- in order, without repetitions

contained : (xs : List ℕ) (n : ℕ) → has_ticket xs n ≡ true → Contains xs n
contained xs n has =
    let any = Any-from_list_any (λ t. nat_eq t n) xs has in
    subst (Contains xs) (eqb-true any.1 n any.4) (any.0, any.2, any.3)

has_contained : (xs : List ℕ) (n : ℕ) → Contains xs n → has_ticket xs n ≡ true
has_contained xs n c = list_any_at (λ t. nat_eq t n) xs c.0 n c.1 (eq-eqb _ n c.2)

has_once : (xs : List ℕ) (n : ℕ) → has_ticket (dedup eqb xs) n ≡ has_ticket xs n
has_once xs n =
    same_test (has_ticket (dedup eqb xs) n) (has_ticket xs n)
    (λ h. has_contained xs n (Contains-from_dedup eqb xs n (contained (dedup eqb xs) n h)))
    (λ h. has_contained (dedup eqb xs) n (Contains-dedup_nat xs n (contained xs n h)))

pub tickets_rise : (low : ℕ) (items : Items) → IsRisingFrom low items → Rise (tickets items)
tickets_rise low [] r = AllPairs-nil (λ a b. a < b)
tickets_rise low (i ∷ is) r =
    AllPairs-cons (λ a b. a < b) i.0 (tickets is) (above is (all_above i.0 i.0 is (omega arith) r.1)) (tickets_rise i.0 is r.1)
  where
    above : (is : Items) → AllByRecursion (λ y. i.0 < y.0) is → All (λ n. i.0 < n) (tickets is)
    above is a = All-from_recursion (λ n. i.0 < n) (tickets is) (each is a)
      where
        each : (is : Items) → AllByRecursion (λ y. i.0 < y.0) is → AllByRecursion (λ n. i.0 < n) (tickets is)
        each [] a = tt
        each (j ∷ js) a = (a.0, each js a.1)

pub named_rise : (ids : List (List ℕ)) (items : Items) → IsRising items → Rise (tickets (named ids items))
named_rise ids items rising = tickets_rise 0 (named ids items) (rising_filter (λ i. is_named ids i.1) 0 items rising)

pub in_order : (items : Items) (ids : List (List ℕ)) (found sorted : List ℕ) → AllPairs (λ a b. a ≢ b) (map id_of (transactions items)) → IsRising items
    → found ≡ filter_map (λ id. ticket_of id items) ids → IsPermutation found sorted → IsSorted nat_cmp sorted → dedup eqb sorted ≡ tickets (named ids items)
in_order items ids found sorted distinct rising is moved up =
    same_rising (dedup eqb sorted) (tickets (named ids items)) (AllPairs-from_increasing (dedup eqb sorted) (IsStrictlyIncreasing-dedup sorted up)) (named_rise ids items rising)
    (λ n. has_once sorted n ∙ sym (list_any-IsPermutation (λ t. nat_eq t n) found sorted moved) ∙ ap (λ l. has_ticket l n) is ∙ found_named items distinct ids n)

-- ---- one id after another

module _ (h : List ℕ → Option ℕ) (ids : List (List ℕ)) (i : ℕ) (found : List ℕ) (lt : i < length ids) (is : found ≡ filter_map h (take i ids)) where
  one_more : (o : Option ℕ) → o ≡ h (get_or ids i []) → found ++ cons_option o [] ≡ filter_map h (take (i + 1) ids)
  one_more o at =
      ap (λ l. l ++ cons_option o []) is ∙ ap (λ o. filter_map h (take i ids) ++ cons_option o []) at
      ∙ sym (filter_map-append h (take i ids) (get_or ids i [] ∷ [])) ∙ ap (filter_map h) (sym (take_more ids i [] lt))

  pub one_found : (ticket : ℕ) → Some ticket ≡ h (get_or ids i []) → found ++ ticket ∷ [] ≡ filter_map h (take (i + 1) ids)
  one_found ticket at = one_more (Some ticket) at

  pub none_found : None ≡ h (get_or ids i []) → found ≡ filter_map h (take (i + 1) ids)
  none_found at = sym (append-nil found) ∙ one_more None at
