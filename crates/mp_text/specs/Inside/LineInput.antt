-- The result of reading a part of a line.
use Rattle.std.specs.Prelude.{◌≡◌, ◌≢◌, ℕ, ◌+◌, ◌<◌, List, [], ◌∷◌, ◌++◌, length, All, Option, IfSome}
use Rattle.std.specs.Io.KnownBytes.{Keeps, Consumes, IsAtEnd}
use Rattle.mp_text.specs.declared.line_input.Step.{Step}
use Rattle.mp_text.specs.declared.line_input.Step.TheVariants.{More, Feed, End, TooLong, Lost}
use Rattle.mp_text.specs.LineInput.{first_line}

-- this part of a line was added, and the reader consumed it and these bytes
abbrev pub Adds : Option (List ℕ) → Option (List ℕ) → List ℕ → List ℕ → List ℕ → Type 0
Adds before after old new behind =
    (part : List ℕ) × All (λ b. b ≢ 10) part × (new ≡ old ++ part) × Consumes before after (part ++ behind)

abbrev pub IsStep : ℕ → Option (List ℕ) → Option (List ℕ) → List ℕ → List ℕ → Step → Type 0
IsStep limit before after old new More = Adds before after old new []
IsStep limit before after old new Feed = Adds before after old new (10 ∷ [])
IsStep limit before after old new End = (new ≡ old) × Keeps before after × IsAtEnd before
IsStep limit before after old new TooLong =
    (new ≡ old) × Keeps before after × IfSome before (λ bytes. limit < length old + length (first_line bytes))
IsStep limit before after old new Lost = (new ≡ old) × Keeps before after × IfSome before (λ bytes. bytes ≢ [])
