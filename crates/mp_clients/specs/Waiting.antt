-- A line that was read already and waits for its answer.
use Rattle.std.specs.Prelude.{ℕ, List, ◌∷◌, Option, None, Some, option_map}
use Rattle.std.specs.declared.vec.Vec.{Vec}
use Rattle.mp_text.specs.Lines.{lines_of}
use Rattle.mp_serve.specs.declared.device.Turn.{Turn}
use Rattle.mp_serve.specs.declared.device.Turn.TheVariants.{Listens, Owes}

-- the bytes of a line that was read already
abbrev pub line_in : {A : Type 0} → Option (Vec ℕ A) → Option (List ℕ)
line_in line = option_map (λ v. v.items) line

-- what a device has to do next, by whether a line was read already
abbrev pub turn_with : Option (List ℕ) → Turn
turn_with None = Listens
turn_with (Some line) = Owes

-- the lines of a conversation: one that was read already, if there is one, and those of the input
abbrev pub lines_with : Option (List ℕ) → List ℕ → List (List ℕ)
lines_with None bytes = lines_of bytes
lines_with (Some line) bytes = line ∷ lines_of bytes
