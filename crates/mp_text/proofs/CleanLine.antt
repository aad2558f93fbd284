-- A clean line.
use Rattle.std.proofs.Common.{ℕ, ◌≤◌, List, length, All, Decides, refl}
use Rattle.std.specs.List.{list_all}
use Rattle.std.specs.Int.{IsInRange}
use Rattle.std.proofs.lemmas.Bool.Decides.{Decides-and, Decides-by_and, Decides-like}
use Rattle.mp_text.proofs.Ranges.{at_most-Decides, range-Decides}
use Rattle.mp_text.specs.Lines.{IsClean, is_clean, is_printable}

-- the test says whether a line is clean
pub clean-Decides : (line : List ℕ) → Decides (is_clean line) (IsClean line)
clean-Decides line =
    Decides-like _ (λ (p : (length line ≤ 4096) × All (IsInRange 0x20 0x7E) line). record { short = p.0; printable = p.1 }) (λ (h : IsClean line). (h.short, h.printable))
    (Decides-and _ _ (at_most-Decides (length line) 4096) (Decides-by_and is_printable (IsInRange 0x20 0x7E) (list_all is_printable) (range-Decides 0x20 0x7E) refl (λ _ _. refl) line))
