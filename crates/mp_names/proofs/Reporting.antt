-- The names under which transactions are reported.
use Rattle.std.proofs.Common.{◌≡◌, ℕ, Bool, true, false, not, cond, List, [], ◌∷◌, ◌++◌, nat_eq, Option, Some, None, refl, sym, ap, ◌∙◌, true≢false}
use Rattle.std.specs.Prelude.{find, filter, ◌||◌, option_map, option_and_then}
use Rattle.std.specs.Option.{option_map_or, option_or}
use Rattle.std.specs.Map.{lookup}
use Rattle.std.specs.Ordering.{eq_by_cmp, nat_cmp}
use Rattle.std.specs.Cmp.Lexicographic.{pointwise, slice_cmp, bytes_decides, nat_list_eq_equiv, texts_ties, nat_list_cmp_total}
use Rattle.std.specs.FinMap.{get, insert, remove, from_entries, same_map, get-insert, get-remove, get-empty, get-retain_keys, get-from_entries, nat_cmp-IsAntisymmetric, slice_cmp-IsAntisymmetric, IsAntisymmetric}
use Rattle.std.specs.FinMap as finite
use Rattle.std.proofs.lemmas.List.Folds.{find-append}
use Rattle.mp_names.specs.declared.names.NamedBinding.{NamedBinding}
use Rattle.mp_names.specs.Reported.{Reported}
use Rattle.mp_tx.specs.Spelling.{id_of}
use Rattle.mp_names.specs.Names.{is_among, reported_left, bound_tx}
use Rattle.mp_names.specs.Inside.NumberTable.{is_key}
use Rattle.mp_names.specs.Inside.BindingTable.{has_name, has_tx_id, bound_id}
use Rattle.mp_names.specs.Inside.Reported.{unreported, AreDeclared}
use Rattle.mp_names.proofs.Bindings.{id_key}

exact : IsAntisymmetric (slice_cmp nat_cmp)
exact = slice_cmp-IsAntisymmetric nat_cmp-IsAntisymmetric

pub same_reported : (a b : Reported) → ((q : List ℕ) → get a q ≡ get b q) → a ≡ b
same_reported a b alike = same_map nat_list_cmp_total exact a b alike

pub found-get : (es : List (List ℕ × List ℕ)) (q : List ℕ) → lookup (pointwise nat_eq q) es ≡ get (from_entries {R = slice_cmp nat_cmp} es) q
found-get es q = by es ∙ sym (get-from_entries nat_list_cmp_total es q)
  where
    by : (xs : List (List ℕ × List ℕ)) → lookup (pointwise nat_eq q) xs ≡ finite.find (slice_cmp nat_cmp) q xs
    by [] = refl
    by (x ∷ xs) = ap (λ b. cond b (Some x.1) (lookup (pointwise nat_eq q) xs)) (texts_ties q x.0) ∙ ap (cond (eq_by_cmp (slice_cmp nat_cmp) q x.0) (Some x.1)) (by xs)

get-with : (r : Reported) (id word q : List ℕ) → get (insert r id word) q ≡ cond (pointwise nat_eq q id) (Some word) (get r q)
get-with r id word q = get-insert nat_list_cmp_total r id word q ∙ ap (λ b. cond b (Some word) (get r q)) (sym (texts_ties q id))

get-without : (r : Reported) (id q : List ℕ) → get (remove r id) q ≡ cond (pointwise nat_eq q id) None (get r q)
get-without r id q = get-remove nat_list_cmp_total r id q ∙ ap (λ b. cond b None (get r q)) (sym (texts_ties q id))

-- a table with one more entry, or a new value under its key
pub set-entries : (old new : List (List ℕ × List ℕ)) (id word : List ℕ) → ((q : List ℕ) → lookup (pointwise nat_eq q) new ≡ cond (pointwise nat_eq id q) (Some word) (lookup (pointwise nat_eq q) old))
    → from_entries {R = slice_cmp nat_cmp} new ≡ insert (from_entries old) id word
set-entries old new id word is = same_reported _ _ (λ q.
    sym (found-get new q) ∙ is q ∙ ap (λ b. cond b (Some word) (lookup (pointwise nat_eq q) old)) (nat_list_eq_equiv.symm id q)
    ∙ ap (cond (pointwise nat_eq q id) (Some word)) (found-get old q) ∙ sym (get-with (from_entries old) id word q))

-- a table without the entry at a key
pub removed-entries : (old new : List (List ℕ × List ℕ)) (id : List ℕ) → ((q : List ℕ) → lookup (pointwise nat_eq q) new ≡ cond (pointwise nat_eq id q) None (lookup (pointwise nat_eq q) old))
    → from_entries {R = slice_cmp nat_cmp} new ≡ remove (from_entries old) id
removed-entries old new id is = same_reported _ _ (λ q.
    sym (found-get new q) ∙ is q ∙ ap (λ b. cond b None (lookup (pointwise nat_eq q) old)) (nat_list_eq_equiv.symm id q)
    ∙ ap (cond (pointwise nat_eq q id) None) (found-get old q) ∙ sym (get-without (from_entries old) id q))

-- -- names that are forgotten

pub get-left : (goes : List (List ℕ)) (r : Reported) (q : List ℕ) → get (reported_left goes r) q ≡ cond (not (option_map_or (is_among goes) (get r q) false)) (get r q) None
get-left goes r q =
    get-retain_keys r (λ id. not (option_map_or (is_among goes) (get r id) false)) q
    (λ x tie. ap (λ id. not (option_map_or (is_among goes) (get r id) false)) (sym (exact q x tie)))

pub among-append : (xs ys : List (List ℕ)) (name : List ℕ) → is_among (xs ++ ys) name ≡ (is_among xs name || is_among ys name)
among-append [] ys name = refl
among-append (x ∷ xs) ys name = elim (pointwise nat_eq name x) as (λ b. (b || is_among (xs ++ ys) name) ≡ ((b || is_among xs name) || is_among ys name)) [
  | true ↦ refl
  | false ↦ among-append xs ys name
]

-- leaving out names twice
pub left-left : (first second : List (List ℕ)) (r : Reported) → reported_left second (reported_left first r) ≡ reported_left (first ++ second) r
left-left first second r = same_reported _ _ (λ q.
    get-left second (reported_left first r) q
    ∙ ap (λ o. cond (not (option_map_or (is_among second) o false)) o None) (get-left first r q)
    ∙ by q (get r q) ∙ sym (get-left (first ++ second) r q))
  where
    with_word : (word : List ℕ) (b c : Bool) → is_among first word ≡ b → is_among (first ++ second) word ≡ c → c ≡ (b || is_among second word)
        → cond (not (option_map_or (is_among second) (cond (not b) (Some word) None) false)) (cond (not b) (Some word) None) None ≡ cond (not c) (Some word) None
    with_word word true c e f is = ap (λ d. cond (not d) (Some word) None) (sym is)
    with_word word false c e f is = ap (λ d. cond (not d) (Some word) None) (sym is)

    by : (q : List ℕ) (o : Option (List ℕ))
        → cond (not (option_map_or (is_among second) (cond (not (option_map_or (is_among first) o false)) o None) false)) (cond (not (option_map_or (is_among first) o false)) o None) None
        ≡ cond (not (option_map_or (is_among (first ++ second)) o false)) o None
    by q None = refl
    by q (Some word) = with_word word (is_among first word) (is_among (first ++ second) word) refl refl (among-append first second word)

pub among_one : (word name : List ℕ) → is_among (word ∷ []) name ≡ pointwise nat_eq word name
among_one word name = by (pointwise nat_eq name word) ∙ nat_list_eq_equiv.symm name word
  where
    by : (b : Bool) → (b || false) ≡ b
    by true = refl
    by false = refl

pub left-none : (r : Reported) → r ≡ reported_left [] r
left-none r = same_reported _ _ (λ q. by (get r q) ∙ sym (get-left [] r q))
  where
    by : (o : Option (List ℕ)) → o ≡ cond (not (option_map_or (is_among []) o false)) o None
    by None = refl
    by (Some word) = refl

get-left_one : (word : List ℕ) (r : Reported) (q : List ℕ) → get (reported_left (word ∷ []) r) q ≡ cond (not (option_map_or (pointwise nat_eq word) (get r q) false)) (get r q) None
get-left_one word r q = get-left (word ∷ []) r q ∙ by (get r q)
  where
    by : (o : Option (List ℕ)) → cond (not (option_map_or (is_among (word ∷ [])) o false)) o None ≡ cond (not (option_map_or (pointwise nat_eq word) o false)) o None
    by None = refl
    by (Some name) = ap (λ b. cond (not b) (Some name) None) (among_one word name)

-- whether the word is declared for a transaction with this id
abbrev pub is_declared : List NamedBinding → List ℕ → List ℕ → Bool
is_declared bindings id word = option_map_or (has_tx_id id) (find (has_name word) bindings) false

-- no transaction is reported under a word that denotes no transaction
pub left-other : (bindings : List NamedBinding) (r : Reported) (word : List ℕ) → AreDeclared bindings r → ((id : List ℕ) → is_declared bindings id word ≡ false) → r ≡ reported_left (word ∷ []) r
left-other bindings r word declared none = same_reported _ _ (λ q. by q (get r q) refl ∙ sym (get-left_one word r q))
  where
    by : (q : List ℕ) (o : Option (List ℕ)) → get r q ≡ o → o ≡ cond (not (option_map_or (pointwise nat_eq word) o false)) o None
    by q None is = refl
    by q (Some name) is = named (pointwise nat_eq word name) refl
      where
        named : (b : Bool) → pointwise nat_eq word name ≡ b → Some name ≡ cond (not b) (Some name) None
        named true here =
            let word_is : word ≡ name = (bytes_decides word name).0 here in
            absurd (true≢false (sym (declared q name is) ∙ ap (is_declared bindings q) (sym word_is) ∙ none q))
        named false other = refl

-- only the transaction that the word denotes may be reported under it
pub left-unreported : (bindings : List NamedBinding) (r : Reported) (word id : List ℕ) → AreDeclared bindings r → ((q : List ℕ) → is_declared bindings q word ≡ pointwise nat_eq q id)
    → unreported r id word ≡ reported_left (word ∷ []) r
left-unreported bindings r word id declared only = same_reported _ _ (λ q. at q (option_map_or (pointwise nat_eq word) (get r id) false) refl (get r q) refl ∙ sym (get-left_one word r q))
  where
    kept : (q : List ℕ) (o : Option (List ℕ)) (b : Bool) → get r q ≡ o → pointwise nat_eq q id ≡ b → (b ≡ true → option_map_or (pointwise nat_eq word) o false ≡ true)
        → cond b None o ≡ cond (not (option_map_or (pointwise nat_eq word) o false)) o None
    kept q None true is here shown = refl
    kept q None false is here shown = refl
    kept q (Some name) true is here shown = ap (λ c. cond (not c) (Some name) None) (sym (shown refl))
    kept q (Some name) false is other shown = named (pointwise nat_eq word name) refl
      where
        named : (c : Bool) → pointwise nat_eq word name ≡ c → Some name ≡ cond (not c) (Some name) None
        named true here =
            let word_is : word ≡ name = (bytes_decides word name).0 here in
            absurd (true≢false (sym (declared q name is) ∙ ap (is_declared bindings q) (sym word_is) ∙ only q ∙ other))
        named false there = refl

    at : (q : List ℕ) (b : Bool) → option_map_or (pointwise nat_eq word) (get r id) false ≡ b → (o : Option (List ℕ)) → get r q ≡ o
        → get (cond b (remove r id) r) q ≡ cond (not (option_map_or (pointwise nat_eq word) o false)) o None
    at q true here o is =
        get-without r id q ∙ ap (cond (pointwise nat_eq q id) None) is
        ∙ kept q o (pointwise nat_eq q id) is refl (λ e. ap (λ p. option_map_or (pointwise nat_eq word) p false) (sym is ∙ ap (get r) ((bytes_decides q id).0 e)) ∙ here)
    at q false there None is = is
    at q false there (Some name) is = is ∙ named (pointwise nat_eq word name) refl
      where
        named : (c : Bool) → pointwise nat_eq word name ≡ c → Some name ≡ cond (not c) (Some name) None
        named true here =
            let word_is : word ≡ name = (bytes_decides word name).0 here in
            let id_is : q ≡ id = (bytes_decides q id).0 (sym (only q) ∙ ap (is_declared bindings q) word_is ∙ declared q name is) in
            absurd (true≢false (sym here ∙ ap (λ p. option_map_or (pointwise nat_eq word) p false) (sym is ∙ ap (get r) id_is) ∙ there))
        named false here = refl

-- the id of the transaction that the word denotes, if it denotes one
abbrev pub id_of_word : List NamedBinding → List ℕ → Option (List ℕ)
id_of_word bindings word = option_and_then (λ n. bound_id n.binding) (find (has_name word) bindings)

declared-key : (bindings : List NamedBinding) (word q : List ℕ) → is_declared bindings q word ≡ is_key (id_of_word bindings word) q
declared-key bindings word q = by (find (has_name word) bindings)
  where
    by : (o : Option NamedBinding) → option_map_or (has_tx_id q) o false ≡ is_key (option_and_then (λ n. bound_id n.binding) o) q
    by None = refl
    by (Some n) = sym (id_key n q)

pub id_named : (bindings : List NamedBinding) (word : List ℕ) → id_of_word bindings word ≡ option_map (λ t. id_of t.tx) (option_and_then bound_tx (option_map (λ n. n.binding) (find (has_name word) bindings)))
id_named bindings word = by (find (has_name word) bindings)
  where
    by : (o : Option NamedBinding) → option_and_then (λ n. bound_id n.binding) o ≡ option_map (λ t. id_of t.tx) (option_and_then bound_tx (option_map (λ n. n.binding) o))
    by None = refl
    by (Some n) = refl

pub left-noted : (bindings : List NamedBinding) (r : Reported) (word id : List ℕ) → Some id ≡ id_of_word bindings word → AreDeclared bindings r → unreported r id word ≡ reported_left (word ∷ []) r
left-noted bindings r word id is declared = left-unreported bindings r word id declared (λ q. declared-key bindings word q ∙ ap (λ o. is_key o q) (sym is))

pub left-unnoted : (bindings : List NamedBinding) (r : Reported) (word : List ℕ) → None ≡ id_of_word bindings word → AreDeclared bindings r → r ≡ reported_left (word ∷ []) r
left-unnoted bindings r word is declared = left-other bindings r word declared (λ q. declared-key bindings word q ∙ ap (λ o. is_key o q) (sym is))

-- the word is declared for the transaction that it denotes
pub declared-named : (bindings : List NamedBinding) (word id : List ℕ) → Some id ≡ option_map (λ t. id_of t.tx) (option_and_then bound_tx (option_map (λ n. n.binding) (find (has_name word) bindings))) → is_declared bindings id word ≡ true
declared-named bindings word id is =
    declared-key bindings word id ∙ ap (λ o. is_key o id) (id_named bindings word ∙ sym is) ∙ (bytes_decides id id).1 refl

-- ---- each is reported under a name that it is declared with

pub declared-none : (bindings : List NamedBinding) → AreDeclared bindings finite.empty
declared-none bindings id word is = absurd (no_name (sym (get-empty (slice_cmp nat_cmp) id) ∙ is))
  where
    no_name : None ≡ Some word → ⊥
    no_name e = Prim.cc

-- after one more declaration
pub declared-push : (bindings : List NamedBinding) (r : Reported) (n : NamedBinding) → AreDeclared bindings r → AreDeclared (bindings ++ n ∷ []) r
declared-push bindings r n declared id word is =
    ap (λ o. option_map_or (has_tx_id id) o false) (find-append (has_name word) bindings (n ∷ []))
    ∙ by (find (has_name word) bindings) (declared id word is)
  where
    by : (o : Option NamedBinding) → option_map_or (has_tx_id id) o false ≡ true → option_map_or (has_tx_id id) (option_or o (find (has_name word) (n ∷ []))) false ≡ true
    by None e = absurd (true≢false (sym e))
    by (Some m) e = e

-- after one more report
pub declared-insert : (bindings : List NamedBinding) (r : Reported) (id word : List ℕ) → is_declared bindings id word ≡ true → AreDeclared bindings r → AreDeclared bindings (insert r id word)
declared-insert bindings r id word here declared q name is = by (pointwise nat_eq q id) refl (sym (get-with r id word q) ∙ is)
  where
    name_is : Some word ≡ Some name → word ≡ name
    name_is e = Prim.cc

    by : (b : Bool) → pointwise nat_eq q id ≡ b → cond b (Some word) (get r q) ≡ Some name → is_declared bindings q name ≡ true
    by true e found = ap (λ i. is_declared bindings i name) ((bytes_decides q id).0 e) ∙ ap (is_declared bindings id) (sym (name_is found)) ∙ here
    by false e found = declared q name found

find_kept : (t k : Bool) (b : NamedBinding) (kept : List NamedBinding) (test : NamedBinding → Bool) (o : Option NamedBinding) → test b ≡ t → (t ≡ true → k ≡ true) → find test kept ≡ o → find test (cond k (b ∷ kept) kept) ≡ cond t (Some b) o
find_kept true true b kept test o e is more = ap (λ c. cond c (Some b) (find test kept)) e
find_kept true false b kept test o e is more = absurd (true≢false (sym (is refl)))
find_kept false true b kept test o e is more = ap (λ c. cond c (Some b) (find test kept)) e ∙ more
find_kept false false b kept test o e is more = more

find-filter : (test keeps : NamedBinding → Bool) (bs : List NamedBinding) → ((n : NamedBinding) → test n ≡ true → keeps n ≡ true) → find test (filter keeps bs) ≡ find test bs
find-filter test keeps [] is = refl
find-filter test keeps (b ∷ bs) is = find_kept (test b) (keeps b) b (filter keeps bs) test (find test bs) refl (is b) (find-filter test keeps bs is)

-- after a name is forgotten
pub declared-left : (bindings : List NamedBinding) (r : Reported) (word : List ℕ) → AreDeclared bindings r → AreDeclared (filter (λ n. not (has_name word n)) bindings) (reported_left (word ∷ []) r)
declared-left bindings r word declared id name is = by (get r id) refl (sym (get-left_one word r id) ∙ is)
  where
    none_some : None ≡ Some name → ⊥
    none_some e = Prim.cc

    name_is : (other : List ℕ) → Some other ≡ Some name → other ≡ name
    name_is other e = Prim.cc

    kept : (other : List ℕ) (b : Bool) → pointwise nat_eq word other ≡ b → get r id ≡ Some other → cond (not b) (Some other) None ≡ Some name → is_declared (filter (λ n. not (has_name word n)) bindings) id name ≡ true
    kept other true e is found = absurd (none_some found)
    kept other false e is found =
        let named : other ≡ name = name_is other found in
        ap (λ o. option_map_or (has_tx_id id) o false) (find-filter (has_name name) (λ n. not (has_name word n)) bindings (λ n has.
        ap not (ap (pointwise nat_eq word) (sym ((bytes_decides name n.name).0 has)) ∙ ap (pointwise nat_eq word) (sym named) ∙ e)))
        ∙ declared id name (is ∙ ap Some named)

    by : (o : Option (List ℕ)) → get r id ≡ o → cond (not (option_map_or (pointwise nat_eq word) o false)) o None ≡ Some name → is_declared (filter (λ n. not (has_name word n)) bindings) id name ≡ true
    by None is found = absurd (none_some found)
    by (Some other) is found = kept other (pointwise nat_eq word other) refl is found
