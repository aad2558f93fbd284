-- What a commit right has in addition to its front.
use Rattle.std.specs.Prelude.{◌≡◌, ℕ, ◌<◌, List, length}
use Rattle.logbook.specs.Pages.{Nib, nib, may_write}
use Rattle.mp_history.specs.Inside.Noted.{Noted, notes_of, history, right_after}

-- this is the number of the history's entries, and the pen makes the next one
pub record IsTurn (root count : ℕ) (log : List Noted) (pen : Nib) : Type 0 where
  -- the history has opened
  pub opened : 0 < length (notes_of root log)
  pub counted : count ≡ length (history root log)
  pub turn : pen ≡ nib may_write (right_after root (notes_of root log)) 0
