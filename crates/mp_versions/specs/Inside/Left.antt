-- What remains of a page.
use Rattle.std.specs.Prelude.{◌≡◌, ℕ, List, [], Option, Some, None}
use Rattle.mp_tx.specs.Transaction.{Transaction}
use Rattle.mp_versions.specs.Pages.{flattened, IsPage}

-- a page of these items, or none if there are no items
abbrev pub IsLeftPage : List (ℕ × Transaction) → Option (List (List (ℕ × Transaction))) → Type 0
IsLeftPage items None = items ≡ []
IsLeftPage items (Some page) = (flattened page ≡ items) × IsPage page
