-- How a salt is drawn.
use Rattle.std.specs.Prelude.{◌≡◌, ℕ, List, ◌++◌, length}
use Rattle.std.specs.Int.{from_le_bytes}
use mir.Syntax.{w64}

-- The first eight bytes, least significant first, encode the number.
pub record IsDrawn (bytes : List ℕ) (n : ℕ) : Type 0 where
  pub first : List ℕ
  pub rest : List ℕ
  pub begins : bytes ≡ first ++ rest
  pub eight : length first ≡ 8
  pub number : n ≡ from_le_bytes w64 first
