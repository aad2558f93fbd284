-- Items one after the other, and the cursor after them.
use Rattle.std.proofs.Common.{◌≡◌, ℕ, List, [], ◌∷◌, ◌++◌, refl}
use Rattle.std.proofs.lemmas.List.{map-append}
use Rattle.mp_tx.specs.Transaction.{Transaction}
use Rattle.mp_seqpool.specs.declared.item.Item.{Item}
use Rattle.mp_seqpool.specs.Item.{item_of, items_of}
use Rattle.mp_seqpool.specs.Reading.{moved}

pub items-last : (items : List Item) (i : Item) → items_of (items ++ i ∷ []) ≡ items_of items ++ item_of i ∷ []
items-last items i = map-append item_of items (i ∷ [])

pub moved-append : (cursor : ℕ) (xs ys : List (ℕ × Transaction)) → moved cursor (xs ++ ys) ≡ moved (moved cursor xs) ys
moved-append cursor [] ys = refl
moved-append cursor (x ∷ xs) ys = moved-append x.0 xs ys
