-- The invariant of a served pool.
use Rattle.std.specs.Prelude.{◌<◌, ◌≤◌, ◌^◌}
use Rattle.mp_rules.specs.Verifier.{Accepts}
use Rattle.mp_seqpool.specs.Pool.{Pool}
use Rattle.mp_seqpool.specs.PoolLaws.{IsLawful}

-- The pool is lawful, may make one more change, and its limit is in range.
pub record IsReady (accepts : Accepts) (p : Pool) : Type 0 where
  pub lawful : IsLawful accepts p
  pub change : p.changes < p.limit
  pub least : 1 ≤ p.limit
  pub most : p.limit ≤ 2 ^ 32
