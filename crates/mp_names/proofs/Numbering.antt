-- Items under strictly increasing numbers.
use Rattle.std.proofs.Common.{◌≡◌, ℕ, ◌+◌, ◌<◌, ◌≤◌, Bool, true, false, not, cond, List, [], ◌∷◌, ◌++◌, nat_eq, Option, Some, None, refl, sym, ap, ◌∙◌, arith}
use Rattle.std.specs.Prelude.{option_and_then, slice_get, find}
use Rattle.std.specs.Ordering.{nat_cmp, is_eq, match_ordering}
use Rattle.std.specs.declared.cmp.Ordering.TheVariants.{Greater}
use Rattle.std.specs.Cmp.{tied_itself, nat_cmp_total}
use Rattle.std.specs.Map.{lookup, values_of, remove_entry}
use Rattle.std.specs.BTreeMap.{insert_entry, is_at}
use Rattle.std.proofs.lemmas.Bool.Decides.{nat_tests}
use Rattle.mp_names.specs.Inside.NumberTable.{without_number}
use Rattle.mp_names.specs.Inside.BindingTable.{numbers_of, AreBetween, without_first}

greater : (m n : ℕ) → m < n → nat_cmp n m ≡ Greater
greater m n lt = grind (arith, nat_tests)

apart : (m n : ℕ) → m < n → is_eq (nat_cmp n m) ≡ false
apart m n lt = ap is_eq (greater m n lt)

itself : (n : ℕ) → is_eq (nat_cmp n n) ≡ true
itself n = ap is_eq (tied_itself nat_cmp_total n)

nat_eq-itself : (n : ℕ) → nat_eq n n ≡ true
nat_eq-itself n = grind (arith, nat_tests)

nat_eq-above : (m n : ℕ) → n < m → nat_eq m n ≡ false
nat_eq-above m n lt = grind (arith, nat_tests)

nat_eq-below : (m n : ℕ) → m < n → nat_eq m n ≡ false
nat_eq-below m n lt = grind (arith, nat_tests)

same_number : (m n : ℕ) → is_eq (nat_cmp n m) ≡ true → n ≡ m
same_number m n e = grind (arith, nat_tests)

other_number : (m n : ℕ) → is_eq (nat_cmp n m) ≡ false → nat_eq m n ≡ false
other_number m n e = grind (arith, nat_tests)

some_exact : (m n : ℕ) → Some m ≡ Some n → m ≡ n
some_exact m n e = Prim.cc

none_some : (n : ℕ) → None ≡ Some n → ⊥
none_some n e = Prim.cc

some_none : (n : ℕ) → Some n ≡ None → ⊥
some_none n e = Prim.cc

-- the numbers with one more at the beginning, if it passes
abbrev with_first : Bool → ℕ → List ℕ → List ℕ
with_first passes n ns = cond passes (n ∷ ns) ns

first-append : (b : Bool) (n : ℕ) (ns ms : List ℕ) → with_first b n (ns ++ ms) ≡ with_first b n ns ++ ms
first-append true n ns ms = refl
first-append false n ns ms = refl

without_more : (n m : ℕ) (ms : List ℕ) (b : Bool) → nat_eq m n ≡ b → without_number n (m ∷ ms) ≡ cond (not b) (m ∷ without_number n ms) (without_number n ms)
without_more n m ms b is = ap (λ c. cond (not c) (m ∷ without_number n ms) (without_number n ms)) is

lacks_more : (n m : ℕ) (ms : List ℕ) (t : Bool) → nat_eq m n ≡ false → without_number n ms ≡ ms → without_number n (with_first t m ms) ≡ with_first t m ms
lacks_more n m ms true other is = without_more n m ms false other ∙ ap (λ l. m ∷ l) is
lacks_more n m ms false other is = is

first_here : (t : Bool) (m n : ℕ) (ns : List ℕ) → slice_get (with_first t m ns) 0 ≡ Some n → (slice_get ns 0 ≡ Some n → m < n) → m ≤ n
first_here true m n ns here more = let same = some_exact m n here in omega (arith, same)
first_here false m n ns later more = let lt = more later in omega (arith, lt)

-- the item with this number is removed, or the numbers are as without it
taken_here : (t : Bool) (m n : ℕ) (ns : List ℕ) → nat_eq m n ≡ true → without_number n ns ≡ ns → ns ≡ cond t (without_number n (with_first t m ns)) (with_first t m ns)
taken_here true m n ns same lacks = sym (without_more n m ns true same ∙ lacks)
taken_here false m n ns same lacks = refl

taken_later : (t s : Bool) (m n : ℕ) (ns : List ℕ) → nat_eq m n ≡ false → with_first s m (cond t (without_number n ns) ns) ≡ cond t (without_number n (with_first s m ns)) (with_first s m ns)
taken_later true true m n ns other = sym (without_more n m ns false other)
taken_later true false m n ns other = refl
taken_later false true m n ns other = refl
taken_later false false m n ns other = refl

module _ {X : Type 0} where
  -- the item with a number
  abbrev pub at : List (ℕ × X) → ℕ → Option X
  at es n = lookup (is_at (nat_cmp n)) es

  -- the items without the one with this number
  abbrev pub without : List (ℕ × X) → ℕ → List (ℕ × X)
  without es n = remove_entry (is_at (nat_cmp n)) es

  pub between_le : (least : ℕ) (es : List (ℕ × X)) (next : ℕ) → AreBetween least es next → least ≤ next
  between_le least [] next b = b
  between_le least (e ∷ es) next b = let more = between_le (e.0 + 1) es next b.1 in omega (arith, b.0, more)

  between-lower : (a b : ℕ) (es : List (ℕ × X)) (next : ℕ) → a ≤ b → AreBetween b es next → AreBetween a es next
  between-lower a b [] next le is = omega (arith, le, is)
  between-lower a b (e ∷ es) next le is = (omega (arith, le, is.0), is.1)

  below : (least : ℕ) (e : ℕ × X) (es : List (ℕ × X)) (next : ℕ) → AreBetween least (e ∷ es) next → e.0 < next
  below least e es next b = let more = between_le (e.0 + 1) es next b.1 in omega (arith, more)

  -- ---- one more at the end

  pub insert-push : (least : ℕ) (es : List (ℕ × X)) (next : ℕ) (x : X) → AreBetween least es next → insert_entry nat_cmp es next x ≡ es ++ (next, x) ∷ []
  insert-push least [] next x b = refl
  insert-push least (e ∷ es) next x b =
      ap (λ o. match_ordering o ((next, x) ∷ e ∷ es) ((e.0, x) ∷ es) (e ∷ insert_entry nat_cmp es next x)) (greater e.0 next (below least e es next b))
      ∙ ap (λ l. e ∷ l) (insert-push (e.0 + 1) es next x b.1)

  pub between-push : (least : ℕ) (es : List (ℕ × X)) (next : ℕ) (x : X) → AreBetween least es next → AreBetween least (es ++ (next, x) ∷ []) (next + 1)
  between-push least [] next x b = (b, omega arith)
  between-push least (e ∷ es) next x b = (b.0, between-push (e.0 + 1) es next x b.1)

  pub values-push : (es : List (ℕ × X)) (e : ℕ × X) → values_of (es ++ e ∷ []) ≡ values_of es ++ e.1 ∷ []
  values-push [] e = refl
  values-push (x ∷ es) e = ap (λ l. x.1 ∷ l) (values-push es e)

  pub numbers-push : (test : X → Bool) (es : List (ℕ × X)) (e : ℕ × X) → numbers_of test (es ++ e ∷ []) ≡ numbers_of test es ++ cond (test e.1) (e.0 ∷ []) []
  numbers-push test [] e = refl
  numbers-push test (x ∷ es) e =
      ap (with_first (test x.1) x.0) (numbers-push test es e) ∙ first-append (test x.1) x.0 (numbers_of test es) (cond (test e.1) (e.0 ∷ []) [])

  -- ---- the numbers

  -- a lesser number isn't among them
  pub lacks_lesser : (test : X → Bool) (n least : ℕ) (es : List (ℕ × X)) (next : ℕ) → n < least → AreBetween least es next → without_number n (numbers_of test es) ≡ numbers_of test es
  lacks_lesser test n least [] next lt b = refl
  lacks_lesser test n least (e ∷ es) next lt b =
      lacks_more n e.0 (numbers_of test es) (test e.1) (nat_eq-above e.0 n (omega (arith, lt, b.0)))
      (lacks_lesser test n (e.0 + 1) es next (omega (arith, lt, b.0)) b.1)

  -- nor is the next one
  pub lacks_next : (test : X → Bool) (least : ℕ) (es : List (ℕ × X)) (next : ℕ) → AreBetween least es next → without_number next (numbers_of test es) ≡ numbers_of test es
  lacks_next test least [] next b = refl
  lacks_next test least (e ∷ es) next b =
      lacks_more next e.0 (numbers_of test es) (test e.1) (nat_eq-below e.0 next (below least e es next b))
      (lacks_next test (e.0 + 1) es next b.1)

  -- the first number is at least `least`
  first_le : (test : X → Bool) (least : ℕ) (es : List (ℕ × X)) (next n : ℕ) → AreBetween least es next → slice_get (numbers_of test es) 0 ≡ Some n → least ≤ n
  first_le test least [] next n b is = absurd (none_some n is)
  first_le test least (e ∷ es) next n b is =
      let le = first_here (test e.1) e.0 n (numbers_of test es) is (λ later. let more = first_le test (e.0 + 1) es next n b.1 later in omega (arith, more)) in omega (arith, b.0, le)

  -- ---- what is found

  at_later : (e : ℕ × X) (es : List (ℕ × X)) (n : ℕ) → e.0 < n → at (e ∷ es) n ≡ at es n
  at_later e es n lt = ap (λ b. cond b (Some e.1) (at es n)) (apart e.0 n lt)

  at_first : (e : ℕ × X) (es : List (ℕ × X)) → at (e ∷ es) e.0 ≡ Some e.1
  at_first e es = ap (λ b. cond b (Some e.1) (at es e.0)) (itself e.0)

  first_later : (test : X → Bool) (e : ℕ × X) (es : List (ℕ × X)) (next : ℕ) (o : Option ℕ) → AreBetween (e.0 + 1) es next → slice_get (numbers_of test es) 0 ≡ o
      → option_and_then (at es) o ≡ option_and_then (at (e ∷ es)) o
  first_later test e es next None b is = refl
  first_later test e es next (Some n) b is = sym (at_later e es n (let le = first_le test (e.0 + 1) es next n b is in omega (arith, le)))

  found : (t : Bool) (e : ℕ × X) (es : List (ℕ × X)) (ns : List ℕ) (o : Option X) → o ≡ option_and_then (at (e ∷ es)) (slice_get ns 0) → cond t (Some e.1) o ≡ option_and_then (at (e ∷ es)) (slice_get (with_first t e.0 ns) 0)
  found true e es ns o is = sym (at_first e es)
  found false e es ns o is = is

  -- the first item that passes has the first number
  pub find-first : (test : X → Bool) (least : ℕ) (es : List (ℕ × X)) (next : ℕ) → AreBetween least es next → find test (values_of es) ≡ option_and_then (at es) (slice_get (numbers_of test es) 0)
  find-first test least [] next b = refl
  find-first test least (e ∷ es) next b =
      found (test e.1) e es (numbers_of test es) (find test (values_of es)) (find-first test (e.0 + 1) es next b.1 ∙ first_later test e es next _ b.1 refl)

  -- -- one item removed

  without_later : (e : ℕ × X) (es : List (ℕ × X)) (n : ℕ) → e.0 < n → without (e ∷ es) n ≡ e ∷ without es n
  without_later e es n lt = ap (λ b. cond b es (e ∷ without es n)) (apart e.0 n lt)

  without_this : (e : ℕ × X) (es : List (ℕ × X)) → without (e ∷ es) e.0 ≡ es
  without_this e es = ap (λ b. cond b es (e ∷ without es e.0)) (itself e.0)

  first_gone : (t : Bool) (e : ℕ × X) (es : List (ℕ × X)) (n : ℕ) (ns : List ℕ) (xs : List X) → slice_get (with_first t e.0 ns) 0 ≡ Some n
      → (slice_get ns 0 ≡ Some n → (e.0 < n) × (values_of (without es n) ≡ xs)) → values_of (without (e ∷ es) n) ≡ cond t (values_of es) (e.1 ∷ xs)
  first_gone true e es n ns xs here more = ap (λ m. values_of (without (e ∷ es) m)) (sym (some_exact e.0 n here)) ∙ ap values_of (without_this e es)
  first_gone false e es n ns xs later more = ap values_of (without_later e es n (more later).0) ∙ ap (λ l. e.1 ∷ l) (more later).1

  -- removing the first number removes the first item that passes
  pub values-without : (test : X → Bool) (least : ℕ) (es : List (ℕ × X)) (next n : ℕ) → AreBetween least es next → slice_get (numbers_of test es) 0 ≡ Some n
      → values_of (without es n) ≡ without_first test (values_of es)
  values-without test least [] next n b is = refl
  values-without test least (e ∷ es) next n b is =
      first_gone (test e.1) e es n (numbers_of test es) (without_first test (values_of es)) is
      (λ later. (let le = first_le test (e.0 + 1) es next n b.1 later in omega (arith, le), values-without test (e.0 + 1) es next n b.1 later))

  same_item : (x y : X) → Some x ≡ Some y → x ≡ y
  same_item x y e = Prim.cc

  no_item : (x : X) → None ≡ Some x → ⊥
  no_item x e = Prim.cc

  none_first : (t : Bool) (x : X) (xs ys : List X) (o : Option X) → cond t (Some x) o ≡ None → (o ≡ None → xs ≡ ys) → x ∷ xs ≡ cond t xs (x ∷ ys)
  none_first true x xs ys o here more = absurd (no_item x (sym here))
  none_first false x xs ys o later more = ap (λ l. x ∷ l) (more later)

  -- the same for a list
  pub first-none : (test : X → Bool) (xs : List X) → find test xs ≡ None → xs ≡ without_first test xs
  first-none test [] is = refl
  first-none test (x ∷ xs) is = none_first (test x) x xs (without_first test xs) (find test xs) is (first-none test xs)

  between_gone : (t : Bool) (least : ℕ) (e : ℕ × X) (es rest : List (ℕ × X)) (next : ℕ) → AreBetween least (e ∷ es) next → AreBetween (e.0 + 1) rest next → AreBetween least (cond t es (e ∷ rest)) next
  between_gone true least e es rest next b more = between-lower least (e.0 + 1) es next (omega (arith, b.0)) b.1
  between_gone false least e es rest next b more = (b.0, more)

  pub between-without : (least : ℕ) (es : List (ℕ × X)) (next n : ℕ) → AreBetween least es next → AreBetween least (without es n) next
  between-without least [] next n b = b
  between-without least (e ∷ es) next n b = between_gone (is_eq (nat_cmp n e.0)) least e es (without es n) next b (between-without (e.0 + 1) es next n b.1)

  numbers_gone : (test : X → Bool) (t : Bool) (e : ℕ × X) (es : List (ℕ × X)) (n : ℕ) (x : X) → is_eq (nat_cmp n e.0) ≡ t → cond t (Some e.1) (at es n) ≡ Some x
      → without_number e.0 (numbers_of test es) ≡ numbers_of test es
      → (at es n ≡ Some x → numbers_of test (without es n) ≡ cond (test x) (without_number n (numbers_of test es)) (numbers_of test es))
      → numbers_of test (cond t es (e ∷ without es n)) ≡ cond (test x) (without_number n (numbers_of test (e ∷ es))) (numbers_of test (e ∷ es))
  numbers_gone test true e es n x same here lacks more =
      let number : n ≡ e.0 = same_number e.0 n same in
      taken_here (test e.1) e.0 n (numbers_of test es) (ap (nat_eq e.0) number ∙ nat_eq-itself e.0) (ap (λ m. without_number m (numbers_of test es)) number ∙ lacks)
      ∙ ap (λ y. cond (test y) (without_number n (numbers_of test (e ∷ es))) (numbers_of test (e ∷ es))) (same_item e.1 x here)
  numbers_gone test false e es n x other later lacks more =
      ap (with_first (test e.1) e.0) (more later) ∙ taken_later (test x) (test e.1) e.0 n (numbers_of test es) (other_number e.0 n other)

  -- the number that is removed is no longer among those that pass
  pub numbers-without : (test : X → Bool) (least : ℕ) (es : List (ℕ × X)) (next n : ℕ) (x : X) → AreBetween least es next → at es n ≡ Some x
      → numbers_of test (without es n) ≡ cond (test x) (without_number n (numbers_of test es)) (numbers_of test es)
  numbers-without test least [] next n x b is = absurd (no_item x is)
  numbers-without test least (e ∷ es) next n x b is =
      numbers_gone test (is_eq (nat_cmp n e.0)) e es n x refl is
      (lacks_lesser test e.0 (e.0 + 1) es next (omega arith) b.1) (numbers-without test (e.0 + 1) es next n x b.1)
