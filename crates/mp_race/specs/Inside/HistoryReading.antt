-- The beginning of a text.
use Rattle.std.specs.Prelude.{◌≡◌, ℕ, List, ◌++◌}

-- the text doesn't begin with this
abbrev pub IsApart : List ℕ → List ℕ → Type 0
IsApart text front = (rest : List ℕ) → text ≡ front ++ rest → ⊥
