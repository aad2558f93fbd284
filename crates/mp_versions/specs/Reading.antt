-- Reading a pool's items within a number of bytes.
use Rattle.std.specs.Prelude.{ℕ, ◌≤◌, List, length}
use mathlib.Core.List.{IsPrefix}
use Rattle.mp_tx.specs.Transaction.{Transaction}
use Rattle.mp_seqpool.specs.Keep.{bytes_of}

-- the longest prefix whose sizes add up to at most this many bytes
pub record IsLongestWithin (bytes : ℕ) (items run : List (ℕ × Transaction)) : Type 0 where
  pub begins : IsPrefix run items
  pub fits : bytes_of run ≤ bytes
  pub longest : (other : List (ℕ × Transaction)) → IsPrefix other items → bytes_of other ≤ bytes → length other ≤ length run
