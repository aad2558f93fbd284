-- How fields are spelled. Numbers are big-endian.
use Rattle.std.specs.Prelude.{ℕ, List, ◌++◌, length, flat_map}
use Rattle.std.specs.Int.{w16, to_be_bytes}

-- a length of 2 bytes, and then the bytes
abbrev pub sized : List ℕ → List ℕ
sized bytes = to_be_bytes w16 (length bytes) ++ bytes

-- a count of 2 bytes, and then each item
abbrev pub counted : {X : Type 0} → (X → List ℕ) → List X → List ℕ
counted spelled xs = to_be_bytes w16 (length xs) ++ flat_map spelled xs
