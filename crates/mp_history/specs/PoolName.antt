-- The meaning of a pool's name.
use Rattle.std.specs.Prelude.{ℕ, true}
use Rattle.logbook.specs.Pages.{Book, Named}

-- the word with this key in this book
abbrev pub head_of : Book → ℕ → Named
head_of b k = record { tracked = true; key = k; book = b }
