-- Reading tickets one after the other.
use Rattle.std.proofs.Common.{◌≡◌, ℕ, ◌+◌, List, [], ◌∷◌, ◌++◌, ◌∙◌}
use Rattle.mp_race.specs.Inside.HistoryWords.{Words}

-- the tickets so far, then these
abbrev pub with_tickets : List ℕ → List ℕ × Words → List ℕ × Words
with_tickets done found = (done ++ found.0, found.1)
