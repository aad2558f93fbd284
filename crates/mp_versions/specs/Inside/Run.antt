-- Runs, whose items are in items, chunks and pages.
use Rattle.std.specs.Prelude.{ℕ, List, ◌++◌}
use Rattle.mp_tx.specs.Transaction.{Transaction}
use Rattle.mp_seqpool.specs.Item.{items_of}
use Rattle.mp_versions.specs.Pages.{flattened, joined}
use Rattle.mp_seqpool.specs.declared.item.Item.{Item}

-- items, then chunks, then pages, then the newest items
abbrev pub run_of : List Item → List (List (ℕ × Transaction)) → List (List (List (ℕ × Transaction))) → List Item → List (ℕ × Transaction)
run_of items chunks pages newest = items_of items ++ (flattened chunks ++ (joined pages ++ items_of newest))

-- pages, then chunks, then items
abbrev pub run_up_to : List (List (List (ℕ × Transaction))) → List (List (ℕ × Transaction)) → List Item → List (ℕ × Transaction)
run_up_to pages chunks items = joined pages ++ (flattened chunks ++ items_of items)
