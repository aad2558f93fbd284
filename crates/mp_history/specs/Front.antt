-- Fronts: prefixes of one history that somebody has seen.
use Rattle.mp_history.specs.Log.{Log, Begins}

-- both are prefixes of one history
pub record AreOfOneLog (a b : Log) : Type 0 where
  pub log : Log
  pub first : Begins a log
  pub second : Begins b log
