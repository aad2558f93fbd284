-- What a store contains.
use Rattle.std.specs.Prelude.{◌≡◌, List, [], ◌∷◌, ◌++◌, map, cond}
use denote.RawPtr.{Ptr}
use Rattle.lru.specs.Linked.{same_ptr}

pub record Cell (N : Type 0) : Type 0 where
  -- the address of the value
  pub at : Ptr
  pub value : N

module _ {N : Type 0} where
  abbrev pub cell : Ptr → N → Cell N
  cell p x = record { at = p; value = x }

  abbrev pub ptrs : List (Cell N) → List Ptr
  ptrs = map (λ c. c.at)

  -- there is a value at p
  abbrev pub IsAt : List (Cell N) → Ptr → Type 0
  IsAt cs p =
      (xs : List (Cell N)) × (c : Cell N) × (ys : List (Cell N)) × (cs ≡ xs ++ c ∷ ys)
      × (c.at ≡ p)

  -- P holds of the cell at p, with those before it and those after it
  abbrev pub AtCell : List (Cell N) → Ptr → (List (Cell N) → Cell N → List (Cell N) → Type 0)
      → Type 0
  AtCell cs p P =
      (xs : List (Cell N)) (c : Cell N) (ys : List (Cell N)) → cs ≡ xs ++ c ∷ ys → c.at ≡ p
      → P xs c ys

  -- the cells, with w as the value at p
  unfoldable pub set_value : Ptr → N → List (Cell N) → List (Cell N)
  set_value p w = map (λ c. cell c.at (cond (same_ptr c.at p) w c.value))

  pub ptrs-set_value : (p : Ptr) (w : N) (cs : List (Cell N)) → ptrs (set_value p w cs) ≡ ptrs cs
  unfolding set_value
  ptrs-set_value p w [] = λ i. []
  ptrs-set_value p w (c ∷ cs) = λ i. c.at ∷ ptrs-set_value p w cs i
