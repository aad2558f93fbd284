-- The rule of a book of histories, and the results of its steps.
use Rattle.std.specs.Prelude.{◌≡◌, ℕ, ◌<◌, true, List, [], ◌∷◌, ◌++◌, length}
use mathlib.Core.List.{IsPrefix}
use Rattle.logbook.specs.Pages.{Cell, cell, Step, View, may_make}
use Rattle.mp_history.specs.Inside.Noted.{Noted, notes_of, history, right_after}

abbrev pub IsHome : List Cell → ℕ → Type 0
IsHome cells k = (k < length cells) × ((cell cells k).1 ≡ true)

-- each was made by the pen that the one before it names, and the word of that pen is at home
abbrev pub Chain : List Cell → ℕ → List Noted → Type 0
Chain cells r [] = Unit {0}
Chain cells r (n ∷ ns) = (n.used ≡ r) × (IsHome cells r × Chain cells n.next ns)

pub record IsKept (cells : List Cell) (log : List Noted) : Type 0 where
  -- the book has a word that no history uses
  pub first : IsHome cells 0
  -- one pen after another made the entries of each history
  pub chain : (root : ℕ) → Chain cells root (notes_of root log)
  -- a head word is the number of entries
  pub count : (root : ℕ) → IsHome cells root → (cell cells root).0 ≡ length (history root log)

-- the step added a cell, and returns the right to make its word
abbrev pub Adds : Step Noted → View Noted ℕ → ℕ → View Noted ℕ → Type 0
Adds s v found w = w.1.0.right ≡ may_make

-- the history whose head word the pen had opens with the argument
abbrev pub Opens : Step Noted → View Noted ℕ → ℕ → View Noted ℕ → Type 0
Opens s v found w = notes_of v.1.0.key w.0 ≡ s.ask ∷ []

-- the argument is appended to the history with this head word
abbrev pub Commits : Step Noted → View Noted ℕ → ℕ → View Noted ℕ → Type 0
Commits s v found w = notes_of s.key w.0 ≡ notes_of s.key v.0 ++ s.ask ∷ []

-- nothing was noted after the pen's turn, in any history
abbrev pub Covers : Step Noted → View Noted ℕ → ℕ → View Noted ℕ → Type 0
Covers s v found w = (w.1.0 ≡ v.1.0) × ((root : ℕ) (notes : List Noted) → IsPrefix notes (notes_of root w.0) → right_after root notes ≡ v.1.0.key → notes ≡ notes_of root w.0)
