-- The test of a name.
use Rattle.std.proofs.Common.{ℕ, ◌≤◌, ◌⊎◌, List, [], ◌∷◌, length, All, Decides, refl}
use Rattle.std.specs.List.{list_all}
use Rattle.std.specs.Char.{IsAsciiLowercase, IsAsciiDigit}
use Rattle.std.proofs.lemmas.Bool.Decides.{Decides-and, Decides-or, Decides-by_and, Decides-like}
use Rattle.mp_text.proofs.Ranges.{at_most-Decides, range-Decides}
use Rattle.mp_text.specs.Names.{IsName, is_name, is_letter_or_digit}

others-Decides : (others : List ℕ) → Decides (list_all is_letter_or_digit others) (All (λ b. IsAsciiLowercase b ⊎ IsAsciiDigit b) others)
others-Decides others =
    Decides-by_and is_letter_or_digit (λ b. IsAsciiLowercase b ⊎ IsAsciiDigit b) (list_all is_letter_or_digit) (λ b. Decides-or _ _ (range-Decides 97 122 b) (range-Decides 48 57 b)) refl (λ _ _. refl) others

-- the test says whether a word is a name
pub name-Decides : (word : List ℕ) → Decides (is_name word) (IsName word)
name-Decides [] = (λ e. Prim.cc, λ h. absurd h)
name-Decides (first ∷ others) =
    Decides-like _ (λ (p : (IsAsciiLowercase first × (length others ≤ 15)) × All (λ b. IsAsciiLowercase b ⊎ IsAsciiDigit b) others). (p.0.0, p.0.1, p.1)) (λ h. ((h.0, h.1), h.2))
    (Decides-and _ _ (Decides-and _ _ (range-Decides 97 122 first) (at_most-Decides (length others) 15)) (others-Decides others))
