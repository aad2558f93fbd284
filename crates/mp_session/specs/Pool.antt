-- The pool of a scenario.
use Rattle.std.specs.Prelude.{ℕ}
use Rattle.mp_signatures.specs.declared.scheme.Scheme.{Scheme}
use Rattle.mp_seqpool.specs.Pool.{Pool}

pub record ScenarioPool : Type 0 where
  -- which signatures it accepts
  pub scheme : Scheme
  pub pool : Pool
  -- the last ticket that the peer was offered
  pub cursor : ℕ
