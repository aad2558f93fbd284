-- Items in chunks, and chunks in pages.
use Rattle.std.specs.Prelude.{ℕ, nat_eq, Bool, ◌<◌, ◌≤◌, List, [], ◌∷◌, length, Option, Some, None}
use Rattle.std.specs.List.{All, flat_map, list_any}
use Rattle.std.specs.Cmp.Lexicographic.{pointwise}
use Rattle.mp_tx.specs.Transaction.{Transaction}
use Rattle.mp_tx.specs.Spelling.{id_of, size_of}

-- the concatenation of the lists
abbrev pub flattened : {T : Type 0} → List (List T) → List T
flattened lists = flat_map (λ l. l) lists

-- all chunks of the pages, in order
abbrev pub chunks_of : List (List (List (ℕ × Transaction))) → List (List (ℕ × Transaction))
chunks_of pages = flattened pages

-- all items of the pages, in order
abbrev pub joined : List (List (List (ℕ × Transaction))) → List (ℕ × Transaction)
joined pages = flattened (chunks_of pages)

-- it has 1 to 64 elements
pub record IsFilled {T : Type 0} (list : List T) : Type 0 where
  pub least : 0 < length list
  pub most : length list ≤ 64

-- the page has 1 to 64 chunks, each of 1 to 64 items
pub record IsPage (page : List (List (ℕ × Transaction))) : Type 0 where
  pub filled : IsFilled page
  pub chunks : All IsFilled page

abbrev pub AreFilled : List (List (List (ℕ × Transaction))) → Type 0
AreFilled pages = All IsPage pages

-- a number of the last element, or this default if there is none
abbrev pub last_by : {T : Type 0} → (T → ℕ) → ℕ → List T → ℕ
last_by f n [] = n
last_by f n (x ∷ xs) = last_by f (f x) xs

-- a number of the first element, or 0 if there is none
abbrev pub first_by : {T : Type 0} → (T → ℕ) → List T → ℕ
first_by f [] = 0
first_by f (x ∷ xs) = f x

-- the first ticket of a chunk, which is the least, and the last, which is the greatest
abbrev pub first_ticket : List (ℕ × Transaction) → ℕ
first_ticket chunk = first_by (λ i. i.0) chunk

abbrev pub last_ticket : List (ℕ × Transaction) → ℕ
last_ticket chunk = last_by (λ i. i.0) 0 chunk

-- the number of bytes of the transaction, or 0 if there is none
abbrev pub size_in : Option Transaction → ℕ
size_in None = 0
size_in (Some t) = size_of t

-- whether the item's transaction has this id
abbrev pub is_of : List ℕ → ℕ × Transaction → Bool
is_of id i = pointwise nat_eq id (id_of i.1)

-- whether one of them has it
abbrev pub has_id : List ℕ → List (ℕ × Transaction) → Bool
has_id id items = list_any (is_of id) items
