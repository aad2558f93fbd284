-- The result of reading a line.
use Rattle.std.specs.Prelude.{◌≡◌, ◌≢◌, ℕ, ◌<◌, ◌≤◌, List, [], length}
use Rattle.std.specs.Io.BufRead.{first_piece}
use Rattle.mp_text.specs.declared.line_input.LineRead.{LineRead}
use Rattle.mp_text.specs.declared.line_input.LineRead.TheVariants.{End, Whole, TooLong, Lost}

-- the first line of these bytes, without its line feed
abbrev pub first_line : List ℕ → List ℕ
first_line bytes = first_piece 10 bytes

-- whether reading the first line of these bytes, with a limit on what is kept, may return this
abbrev pub IsLine : ℕ → List ℕ → LineRead → List ℕ → Type 0
IsLine limit bytes End kept = bytes ≡ []
IsLine limit bytes Whole kept = (bytes ≢ []) × (length (first_line bytes) ≤ limit) × (kept ≡ first_line bytes)
IsLine limit bytes TooLong kept = limit < length (first_line bytes)
IsLine limit bytes Lost kept = bytes ≢ []
