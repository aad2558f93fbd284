-- The index of the first item with a key.
use Rattle.std.proofs.Common.{◌≡◌, ℕ, suc, ◌+◌, Bool, true, false, cond, List, [], ◌∷◌, ◌++◌, length, Option, Some, None, nat_eq, refl, sym, ap, ◌∙◌, arith}
use Rattle.std.specs.Prelude.{option_map, option_and_then, slice_get, find}
use Rattle.std.specs.Option.{option_or, option_map_or}
use Rattle.std.specs.Map.{lookup}
use Rattle.std.specs.Cmp.Lexicographic.{pointwise}
use Rattle.mp_names.specs.Inside.PlaceTable.{Noted, noted_at, Notes, place_of, ArePlaced}

later-or : (o : Option ℕ) (b : Bool) (n : ℕ) → option_map (λ k. k + 1) (option_or o (cond b (Some n) None)) ≡ option_or (option_map (λ k. k + 1) o) (cond b (Some (n + 1)) None)
later-or None true n = refl
later-or None false n = refl
later-or (Some k) b n = refl

length-more : {X : Type 0} (x : X) (xs : List X) → length xs + 1 ≡ length (x ∷ xs)
length-more x xs = omega arith

push_more : {X : Type 0} (test : X → Bool) (x y : X) (xs : List X) (t : Bool) → test x ≡ t
    → place_of test (xs ++ y ∷ []) ≡ option_or (place_of test xs) (cond (test y) (Some (length xs)) None)
    → place_of test (x ∷ (xs ++ y ∷ [])) ≡ option_or (place_of test (x ∷ xs)) (cond (test y) (Some (length (x ∷ xs))) None)
push_more test x y xs true is before = rw is refl
push_more test x y xs false is before =
    rw is (ap (option_map (λ k. k + 1)) before ∙ later-or (place_of test xs) (test y) (length xs)
    ∙ ap (λ n. option_or (option_map (λ k. k + 1) (place_of test xs)) (cond (test y) (Some n) None)) (length-more x xs))

pub place_of-push : {X : Type 0} (test : X → Bool) (xs : List X) (y : X) → place_of test (xs ++ y ∷ []) ≡ option_or (place_of test xs) (cond (test y) (Some (length xs)) None)
place_of-push test [] y = refl
place_of-push test (x ∷ xs) y = push_more test x y xs (test x) refl (place_of-push test xs y)

lookup_more : {K X : Type 0} (test : K → Bool) (e : K × X) (es : List (K × X)) (k : K) (v : X) (t : Bool) → test e.0 ≡ t
    → lookup test (es ++ (k, v) ∷ []) ≡ option_or (lookup test es) (cond (test k) (Some v) None)
    → lookup test (e ∷ (es ++ (k, v) ∷ [])) ≡ option_or (lookup test (e ∷ es)) (cond (test k) (Some v) None)
lookup_more test e es k v true is before = rw is refl
lookup_more test e es k v false is before = rw is before

pub lookup-push : {K X : Type 0} (test : K → Bool) (es : List (K × X)) (k : K) (v : X) → lookup test (es ++ (k, v) ∷ []) ≡ option_or (lookup test es) (cond (test k) (Some v) None)
lookup-push test [] k v = refl
lookup-push test (e ∷ es) k v = lookup_more test e es k v (test e.0) refl (lookup-push test es k v)

shifted : {X : Type 0} (x : X) (xs : List X) (o : Option ℕ) → option_and_then (slice_get xs) o ≡ option_and_then (slice_get (x ∷ xs)) (option_map (λ k. k + 1) o)
shifted x xs None = refl
shifted x xs (Some k) = let next : suc k ≡ k + 1 = omega arith in ap (slice_get (x ∷ xs)) next

find_more : {X : Type 0} (test : X → Bool) (x : X) (xs : List X) (t : Bool) → test x ≡ t → find test xs ≡ option_and_then (slice_get xs) (place_of test xs)
    → find test (x ∷ xs) ≡ option_and_then (slice_get (x ∷ xs)) (place_of test (x ∷ xs))
find_more test x xs true is before = rw is refl
find_more test x xs false is before = rw is (before ∙ shifted x xs (place_of test xs))

pub find-place : {X : Type 0} (test : X → Bool) (xs : List X) → find test xs ≡ option_and_then (slice_get xs) (place_of test xs)
find-place test [] = refl
find-place test (x ∷ xs) = find_more test x xs (test x) refl (find-place test xs)

-- an item that is added last is found by its key, if it has one, unless an earlier item has that key
pub placed-noted : {X Z : Type 0} (has : List ℕ → X → Bool) (start old new : Noted Z) (xs all : List X) (x : X) (key : Option (List ℕ)) (place : ℕ)
    → ((q : List ℕ) → has q x ≡ option_map_or (pointwise nat_eq q) key false) → place ≡ length xs → all ≡ xs ++ x ∷ [] → old ≡ start
    → Notes old key place new → ArePlaced has start xs → ArePlaced has new all
placed-noted has start old new xs all x key place is at put same notes placed = λ q.
    notes q
    ∙ ap (λ o. option_or o (cond (option_map_or (pointwise nat_eq q) key false) (Some place) None)) (ap (λ es. noted_at es q) same ∙ placed q)
    ∙ ap (λ b. option_or (place_of (has q) xs) (cond b (Some place) None)) (sym (is q))
    ∙ ap (λ n. option_or (place_of (has q) xs) (cond (has q x) (Some n) None)) at
    ∙ sym (place_of-push (has q) xs x) ∙ ap (place_of (has q)) (sym put)
