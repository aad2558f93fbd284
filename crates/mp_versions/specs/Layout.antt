-- Items in pages, followed by those of an open chunk.
use Rattle.std.specs.Prelude.{ℕ, ◌≤◌, List, [], ◌∷◌, ◌++◌, length}
use Rattle.mp_tx.specs.Transaction.{Transaction}
use Rattle.mp_versions.specs.Pages.{chunks_of, joined, AreFilled}
use Rattle.mp_versions.specs.declared.layout.Layout.{Layout}

-- all items, in order
abbrev pub items_in : Layout → List (ℕ × Transaction)
items_in l = joined l.pages ++ l.newest

-- the chunk, if it has items
abbrev pub filled_chunks : List (ℕ × Transaction) → List (List (ℕ × Transaction))
filled_chunks [] = []
filled_chunks (i ∷ is) = (i ∷ is) ∷ []

-- all chunks that have items, in order
abbrev pub chunks_in : Layout → List (List (ℕ × Transaction))
chunks_in l = chunks_of l.pages ++ filled_chunks l.newest

-- the open chunk has at most 64 items, and pages and chunks are neither empty nor too long
pub record IsLaid (l : Layout) : Type 0 where
  pub filled : AreFilled l.pages
  pub few : length l.newest ≤ 64
