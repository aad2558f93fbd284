-- Pages that are being built.
use Rattle.std.specs.Prelude.{◌≡◌, ℕ, ◌≤◌, List, ◌++◌, length}
use Rattle.std.specs.List.{All}
use Rattle.mp_tx.specs.Transaction.{Transaction}
use Rattle.mp_seqpool.specs.Item.{items_of}
use Rattle.mp_versions.specs.Pages.{flattened, joined, IsFilled, AreFilled}
use Rattle.mp_versions.specs.declared.layout.building.Built.{Built}

-- They consist of these items.
pub record IsBuilt (items : List (ℕ × Transaction)) (b : Built) : Type 0 where
  pub all : joined b.pages.items ++ (flattened b.chunks.items ++ items_of b.items.items) ≡ items
  pub filled : AreFilled b.pages.items
  pub chunks_filled : All IsFilled b.chunks.items
  pub few_chunks : length b.chunks.items ≤ 64
  pub few_items : length b.items.items ≤ 64
