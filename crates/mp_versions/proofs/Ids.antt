-- Whether lists of items have an item.
use Rattle.std.proofs.Common.{◌≡◌, ℕ, Bool, true, false, cond, List, [], ◌∷◌, ◌++◌, refl, sym, ap, ◌∙◌}
use Rattle.std.specs.Prelude.{◌||◌, Some, is_some}
use Rattle.std.specs.List.{list_any}
use Rattle.mp_tx.specs.Transaction.{Transaction}
use Rattle.mp_seqpool.specs.SlowPool.{ticket_of}
use Rattle.mp_seqpool.specs.declared.item.Item.{Item}
use Rattle.mp_seqpool.specs.Item.{item_of, items_of}
use Rattle.mp_versions.specs.Pages.{flattened, chunks_of, joined, is_of, has_id}

pub any_seen : (p : ℕ × Transaction → Bool) (items : List Item) → list_any (λ i. p (item_of i)) items ≡ list_any p (items_of items)
any_seen p [] = refl
any_seen p (i ∷ is) = ap (λ b. p (item_of i) || b) (any_seen p is)

or_or : (a b c : Bool) → (a || b) || c ≡ a || (b || c)
or_or true b c = refl
or_or false b c = refl

any_append : {T : Type 0} (p : T → Bool) (xs ys : List T) → list_any p (xs ++ ys) ≡ list_any p xs || list_any p ys
any_append p [] ys = refl
any_append p (x ∷ xs) ys = ap (λ b. p x || b) (any_append p xs ys) ∙ sym (or_or (p x) (list_any p xs) (list_any p ys))

any_flattened : {T : Type 0} (p : T → Bool) (lists : List (List T)) → list_any p (flattened lists) ≡ list_any (list_any p) lists
any_flattened p [] = refl
any_flattened p (l ∷ ls) = any_append p l (flattened ls) ∙ ap (λ b. list_any p l || b) (any_flattened p ls)

any_joined : (id : List ℕ) (pages : List (List (List (ℕ × Transaction)))) → list_any (list_any (has_id id)) pages ≡ has_id id (joined pages)
any_joined id pages = sym (any_flattened (is_of id) (chunks_of pages) ∙ any_flattened (list_any (is_of id)) pages)

-- those of pages, and those after them
pub any_in : (id : List ℕ) (pages : List (List (List (ℕ × Transaction)))) (newest : List (ℕ × Transaction)) → has_id id (joined pages ++ newest) ≡ list_any (list_any (has_id id)) pages || has_id id newest
any_in id pages newest = any_append (is_of id) (joined pages) newest ∙ ap (λ b. b || has_id id newest) (sym (any_joined id pages))

found : (b : Bool) (k : ℕ) (id : List ℕ) (is : List (ℕ × Transaction)) → has_id id is ≡ is_some (ticket_of id is) → b || has_id id is ≡ is_some (cond b (Some k) (ticket_of id is))
found true k id is e = refl
found false k id is e = e

pub is_ticketed : (id : List ℕ) (items : List (ℕ × Transaction)) → has_id id items ≡ is_some (ticket_of id items)
is_ticketed id [] = refl
is_ticketed id (i ∷ is) = found (is_of id i) i.0 id is (is_ticketed id is)
