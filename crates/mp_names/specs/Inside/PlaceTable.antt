-- Indexes of the items of a list.
use Rattle.std.specs.Prelude.{◌≡◌, ℕ, ◌+◌, Bool, false, nat_eq, List, [], ◌∷◌, Option, None, Some, option_map, if◌then◌else◌}
use Rattle.std.specs.Option.{option_or, option_map_or}
use Rattle.std.specs.Cmp.Lexicographic.{pointwise}
use Rattle.std.specs.Map.{lookup}
use Rattle.std.specs.declared.vec.Vec.{Vec}

-- keys of bytes with indexes
abbrev pub Noted : Type 0 → Type 0
Noted Z = List (Vec ℕ Z × ℕ)

abbrev pub noted_at : {Z : Type 0} → Noted Z → List ℕ → Option ℕ
noted_at places key = lookup (λ k. pointwise nat_eq key k.items) places

-- this index is noted under the key, if there is one, unless an index was noted there; everything else stays
abbrev pub Notes : {Z : Type 0} → Noted Z → Option (List ℕ) → ℕ → Noted Z → Type 0
Notes old key place new =
    (q : List ℕ) → noted_at new q ≡ option_or (noted_at old q) (if option_map_or (pointwise nat_eq q) key false then Some place else None)

-- the index of the first item that passes
abbrev pub place_of : {X : Type 0} → (X → Bool) → List X → Option ℕ
place_of test [] = None
place_of test (x ∷ xs) = if test x then Some 0 else option_map (λ k. k + 1) (place_of test xs)

-- each key leads to the first item that has it
abbrev pub ArePlaced : {X Z : Type 0} → (List ℕ → X → Bool) → Noted Z → List X → Type 0
ArePlaced has places items = (key : List ℕ) → noted_at places key ≡ place_of (has key) items
