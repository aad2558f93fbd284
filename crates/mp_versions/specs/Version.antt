-- Versions: immutable states of a pool.
use Rattle.std.specs.Prelude.{ℕ, List}
use Rattle.mp_tx.specs.Transaction.{Transaction}
use Rattle.mp_seqpool.specs.Pool.{Pool}

pub record Version : Type 0 where
  pub pool : Pool
  -- runs that make up the pool's items: each changes as a whole, and is shared if it doesn't change
  pub chunks : List (List (ℕ × Transaction))
