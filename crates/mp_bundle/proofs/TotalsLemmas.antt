-- What a map of totals has at each token, before and after it changes.
use Rattle.std.proofs.Common.{◌≡◌, ℕ, zero, suc, ◌+◌, ◌<◌, ℤ, pos, ◌+ℤ◌, true, false, cond, ◌&&◌, List, [], ◌∷◌, length, get_or, take, drop, refl, sym, ap, subst, ◌∙◌, arith, add-one}
use Rattle.std.specs.Prelude.{Option, Some, None, IsSome, is_some}
use Rattle.std.specs.Option.{unwrap_or}
use Rattle.std.specs.Map.{lookup}
use Rattle.std.specs.Ordering.{is_lt, is_eq, eq_by_cmp, int_eq}
use Rattle.std.specs.Cmp.{eq_by_cmp_equiv, signed_Decides, tied_itself, first_so, second_so}
use Rattle.std.specs.FinMap.{find, is_sorted, get, insert, remove, get-empty, get-insert, get-remove, same_map}
use Rattle.std.specs.FinMap.Entries.{below_all}
use Rattle.std.specs.BTreeMap as tree
use Rattle.std.specs.BTreeMap.{BTreeMap, is_at, Updates, WritesThrough, ContainsKey}
use Rattle.std.specs.List.Sorted.{IsStrictlySortedBy}
use Rattle.std.specs.List.{AllByRecursion}
use Rattle.std.specs.Map.{keys_of}
use Rattle.std.specs.declared.cmp.Ordering.TheVariants.{Less}
use Rattle.std.proofs.lemmas.Int.{ints}
use Rattle.std.proofs.Math.Seq.{drop-cons}
use Rattle.std.proofs.lemmas.Map.Keys.{sorted_head, sorted_tail}
use Rattle.std.proofs.lemmas.List.Elements.{All-more}
use Rattle.mp_bundle.specs.declared.token.Token.{Token}
use Rattle.mp_bundle.specs.Token.{token_cmp}
use Rattle.mp_bundle.specs.Bundle.{TokenEntry, quantity_of}
use Rattle.mp_bundle.specs.Inside.Totals.{HasRoom, KeepsTotals, nonzero_of}
use Rattle.mp_bundle.proofs.Tokens.{token_total, token_exact}
use Rattle.mp_bundle.proofs.Search.{equal, less}

-- the look-up of a map finds what the entries have
find-lookup : (es : List TokenEntry) (q : Token) → find token_cmp q es ≡ lookup (is_at (token_cmp q)) es
find-lookup [] q = refl
find-lookup (e ∷ es) q = ap (cond (is_at (token_cmp q) e.0) (Some e.1)) (find-lookup es q)

pub quantity-get : (m : BTreeMap Token ℤ) (q : Token) → quantity_of m.entries q ≡ unwrap_or (tree.get token_cmp m q) (pos 0)
quantity-get m q = ap (λ o. unwrap_or o (pos 0)) (find-lookup m.entries q)

after_update : (old new : BTreeMap Token ℤ) (k : Token) (v : ℤ) → Updates token_cmp old new k (Some v) → (q : Token) → quantity_of new.entries q ≡ cond (eq_by_cmp token_cmp k q) v (quantity_of old.entries q)
after_update old new k v h q =
    quantity-get new q ∙ ap (λ o. unwrap_or o (pos 0)) (h.0 q)
    ∙ elim (eq_by_cmp token_cmp k q) as (λ b. unwrap_or (cond b (Some v) (tree.get token_cmp old q)) (pos 0) ≡ cond b v (quantity_of old.entries q)) [ true ↦ refl | false ↦ sym (quantity-get old q) ]

room_after_update : (old new : BTreeMap Token ℤ) (k : Token) (v : ℤ) → Updates token_cmp old new k (Some v) → (q : Token) → ContainsKey token_cmp old q → ContainsKey token_cmp new q
room_after_update old new k v h q has =
    subst IsSome (sym (h.0 q)) (elim (eq_by_cmp token_cmp k q) as (λ b. IsSome (cond b (Some v) (tree.get token_cmp old q))) [ true ↦ refl | false ↦ has ])

-- a total of zero for a token that has none
pub zero_put : (old new : BTreeMap Token ℤ) (k : Token) → tree.get token_cmp old k ≡ None → Updates token_cmp old new k (Some (pos 0)) → KeepsTotals old new
zero_put old new k none h = record {
  same = λ q. after_update old new k (pos 0) h q
      ∙ elim (eq_by_cmp token_cmp k q) as (λ b. eq_by_cmp token_cmp k q ≡ b → cond b (pos 0) (quantity_of old.entries q) ≡ quantity_of old.entries q) [
        | true ↦ λ e. sym (ap (quantity_of old.entries) (sym (token_exact k q (equal _ e))) ∙ quantity-get old k ∙ ap (λ o. unwrap_or o (pos 0)) none)
        | false ↦ λ e. refl
      ] refl;
  room = room_after_update old new k (pos 0) h;
}

pub kept_on : (a b c : BTreeMap Token ℤ) → KeepsTotals a b → KeepsTotals b c → KeepsTotals a c
kept_on a b c h k = record { same = λ q. k.same q ∙ h.same q; room = λ q has. k.room q (h.room q has) }

pub room_stays : (a b : BTreeMap Token ℤ) (es : List TokenEntry) → ((q : Token) → ContainsKey token_cmp a q → ContainsKey token_cmp b q) → HasRoom a es → HasRoom b es
room_stays a b es keeps room k d lt = keeps _ (room k d lt)

pub room_more : (m : BTreeMap Token ℤ) (es : List TokenEntry) (i : ℕ) (e : TokenEntry) → i < length es → e ≡ get_or es i e → HasRoom m (take i es) → ContainsKey token_cmp m e.0 → HasRoom m (take (i + 1) es)
room_more m es i e lt is room here = All-more (λ (e : TokenEntry). ContainsKey token_cmp m e.0) es i e lt room (subst (λ (x : TokenEntry). ContainsKey token_cmp m x.0) is here)

-- what a write through a token's total does
pub raised : (old : BTreeMap Token ℤ) (new : ℤ → BTreeMap Token ℤ) (k : Token) → ((w : ℤ) → WritesThrough token_cmp (token_cmp k) old w (new w)) → (total by w : ℤ) → tree.get token_cmp old k ≡ Some total → w ≡ total +ℤ by
    → (q : Token) → quantity_of (new w).entries q ≡ quantity_of old.entries q +ℤ cond (eq_by_cmp token_cmp k q) by (pos 0)
raised old new k holds total by w some is q =
    after_update old (new w) k w ((holds w).3 (subst IsSome (sym some) refl)) q
    ∙ elim (eq_by_cmp token_cmp k q) as (λ b. eq_by_cmp token_cmp k q ≡ b → cond b w (quantity_of old.entries q) ≡ quantity_of old.entries q +ℤ cond b by (pos 0)) [
      | true ↦ λ e.
          let here : quantity_of old.entries q ≡ total = ap (quantity_of old.entries) (sym (token_exact k q (equal _ e))) ∙ quantity-get old k ∙ ap (λ o. unwrap_or o (pos 0)) some in
          is ∙ ap (λ t. t +ℤ by) (sym here)
      | false ↦ λ e. omega (arith, ints)
    ] refl

pub raised_room : (old : BTreeMap Token ℤ) (new : ℤ → BTreeMap Token ℤ) (k : Token) → ((w : ℤ) → WritesThrough token_cmp (token_cmp k) old w (new w)) → (total w : ℤ) → tree.get token_cmp old k ≡ Some total
    → (q : Token) → ContainsKey token_cmp old q → ContainsKey token_cmp (new w) q
raised_room old new k holds total w some = room_after_update old (new w) k w ((holds w).3 (subst IsSome (sym some) refl))

-- a token that is less than all isn't among them
pub find_below : (es : List TokenEntry) (q : Token) → below_all token_cmp q es ≡ true → find token_cmp q es ≡ None
find_below [] q below = refl
find_below (e ∷ es) q below = ap (λ o. cond (is_eq o) (Some e.1) (find token_cmp q es)) (less _ (first_so _ _ below)) ∙ find_below es q (second_so _ _ below)

-- the quantity of a token is its quantity in the first entry and in the others
quantity-cons : (e : TokenEntry) (es : List TokenEntry) (q : Token) → is_sorted token_cmp (e ∷ es) ≡ true → quantity_of (e ∷ es) q ≡ cond (eq_by_cmp token_cmp e.0 q) e.1 (pos 0) +ℤ quantity_of es q
quantity-cons e es q rising =
    ap (λ b. unwrap_or (cond b (Some e.1) (find token_cmp q es)) (pos 0)) ((eq_by_cmp_equiv token_total).symm q e.0)
    ∙ elim (eq_by_cmp token_cmp e.0 q) as (λ b. eq_by_cmp token_cmp e.0 q ≡ b → unwrap_or (cond b (Some e.1) (find token_cmp q es)) (pos 0) ≡ cond b e.1 (pos 0) +ℤ quantity_of es q) [
      | true ↦ λ same.
          let none : quantity_of es q ≡ pos 0 = ap (λ t. quantity_of es t) (sym (token_exact e.0 q (equal _ same))) ∙ ap (λ o. unwrap_or o (pos 0)) (find_below es e.0 (first_so _ _ rising)) in
          omega (arith, ints)
      | false ↦ λ same. omega (arith, ints)
    ] refl

pub sorted_drop : (es : List TokenEntry) (i : ℕ) → is_sorted token_cmp es ≡ true → is_sorted token_cmp (drop i es) ≡ true
sorted_drop es zero h = h
sorted_drop [] (suc i) h = refl
sorted_drop (e ∷ es) (suc i) h = sorted_drop es i (second_so _ _ h)

pub quantity-drop : (es : List TokenEntry) (i : ℕ) (e : TokenEntry) → is_sorted token_cmp es ≡ true → i < length es → e ≡ get_or es i e → (q : Token) → quantity_of (drop i es) q ≡ cond (eq_by_cmp token_cmp e.0 q) e.1 (pos 0) +ℤ quantity_of (drop (i + 1) es) q
quantity-drop es i e rising lt is q =
    let split : drop i es ≡ e ∷ drop (i + 1) es = drop-cons es i e lt ∙ ap (λ x. x ∷ drop (suc i) es) (sym is) ∙ ap (λ n. e ∷ drop n es) (sym (add-one i)) in
    ap (λ xs. quantity_of xs q) split ∙ quantity-cons e (drop (i + 1) es) q (subst (λ xs. is_sorted token_cmp xs ≡ true) split (sorted_drop es i rising))

-- the number, if it isn't zero
abbrev some_nonzero : ℤ → Option ℤ
some_nonzero n = cond (int_eq n (pos 0)) None (Some n)

get-nonzero : (es : List TokenEntry) (q : Token) → get (nonzero_of es) q ≡ some_nonzero (quantity_of es q)
get-nonzero [] q = get-empty token_cmp q
get-nonzero (e ∷ es) q =
    elim (int_eq e.1 (pos 0)) as (λ z. int_eq e.1 (pos 0) ≡ z → get (cond z (remove (nonzero_of es) e.0) (insert (nonzero_of es) e.0 e.1)) q ≡ some_nonzero (quantity_of (e ∷ es) q)) [
      | true ↦ λ z. get-remove token_total (nonzero_of es) e.0 q
          ∙ elim (eq_by_cmp token_cmp q e.0) as (λ b. cond b None (get (nonzero_of es) q) ≡ some_nonzero (unwrap_or (cond b (Some e.1) (find token_cmp q es)) (pos 0))) [
            | true ↦ sym (ap (λ v. cond v None (Some e.1)) z)
            | false ↦ get-nonzero es q
          ]
      | false ↦ λ z. get-insert token_total (nonzero_of es) e.0 e.1 q
          ∙ elim (eq_by_cmp token_cmp q e.0) as (λ b. cond b (Some e.1) (get (nonzero_of es) q) ≡ some_nonzero (unwrap_or (cond b (Some e.1) (find token_cmp q es)) (pos 0))) [
            | true ↦ sym (ap (λ v. cond v None (Some e.1)) z)
            | false ↦ get-nonzero es q
          ]
    ] refl

value_of_nonzero : (n : ℤ) → unwrap_or (some_nonzero n) (pos 0) ≡ n
value_of_nonzero n = elim (int_eq n (pos 0)) as (λ z. int_eq n (pos 0) ≡ z → unwrap_or (cond z None (Some n)) (pos 0) ≡ n) [
  | true ↦ λ z. sym ((signed_Decides n (pos 0)).0 z)
  | false ↦ λ z. refl
] refl

-- the totals that aren't zero determine all totals
pub total-nonzero : (es : List TokenEntry) (q : Token) → unwrap_or (get (nonzero_of es) q) (pos 0) ≡ quantity_of es q
total-nonzero es q = ap (λ o. unwrap_or o (pos 0)) (get-nonzero es q) ∙ value_of_nonzero (quantity_of es q)

pub same_nonzero : (es fs : List TokenEntry) → ((q : Token) → quantity_of es q ≡ quantity_of fs q) → nonzero_of es ≡ nonzero_of fs
same_nonzero es fs h = same_map token_total token_exact _ _ (λ q. get-nonzero es q ∙ ap some_nonzero (h q) ∙ sym (get-nonzero fs q))

-- the entries of a map are in strictly increasing order
lower_all : (k : Token) (es : List TokenEntry) → AllByRecursion (λ q. token_cmp k q ≡ Less) (keys_of es) → below_all token_cmp k es ≡ true
lower_all k [] h = refl
lower_all k (e ∷ es) h = ap (λ o. is_lt o && below_all token_cmp k es) h.0 ∙ lower_all k es h.1

pub rising_entries : (es : List TokenEntry) → IsStrictlySortedBy token_cmp (keys_of es) → is_sorted token_cmp es ≡ true
rising_entries [] h = refl
rising_entries (e ∷ es) h = ap (λ b. b && is_sorted token_cmp es) (lower_all e.0 es (sorted_head token_cmp e.0 (keys_of es) h)) ∙ rising_entries es (sorted_tail token_cmp e.0 (keys_of es) h)

pub none_from_is_some : {X : Type 0} (o : Option X) → is_some o ≡ false → o ≡ None
none_from_is_some None h = refl
none_from_is_some (Some x) h = Prim.cc

-- the first remaining entry has its quantity
pub first_quantity : (es : List TokenEntry) (i : ℕ) (e : TokenEntry) → is_sorted token_cmp es ≡ true → i < length es → e ≡ get_or es i e → quantity_of (drop i es) e.0 ≡ e.1
first_quantity es i e rising lt is =
    let split : drop i es ≡ e ∷ drop (i + 1) es = drop-cons es i e lt ∙ ap (λ x. x ∷ drop (suc i) es) (sym is) ∙ ap (λ n. e ∷ drop n es) (sym (add-one i)) in
    ap (λ xs. quantity_of xs e.0) split ∙ ap (λ o. unwrap_or (cond (is_eq o) (Some e.1) (find token_cmp e.0 (drop (i + 1) es))) (pos 0)) (tied_itself token_total e.0)

-- what is added now no longer remains
pub regroup : (now by next left rest whole : ℤ) → next ≡ now +ℤ by → left ≡ by +ℤ rest → now +ℤ left ≡ whole → next +ℤ rest ≡ whole
regroup now by next left rest whole a b c = omega (arith, ints)
