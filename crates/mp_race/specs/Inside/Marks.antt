-- Marks of commands. Nothing is known of commands without a place among them.
use Rattle.std.specs.Prelude.{◌≡◌, ℕ, Bool, true, false, List, get_or}

abbrev pub IsMarked : List Bool → ℕ → Type 0
IsMarked marks task = get_or marks task true ≡ true

abbrev pub IsUnmarked : List Bool → ℕ → Type 0
IsUnmarked marks task = get_or marks task true ≡ false
