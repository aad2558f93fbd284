-- The parts with which a successor opens.
use Rattle.std.specs.Prelude.{◌≡◌, ℕ, List, Option, None, replicate}
use Rattle.mp_rules.specs.Verifier.{Accepts}
use Rattle.mp_history.specs.Log.{Log, IsLegalLog}

-- the right, the version, the published version and the places of the callers' entries are those of this history, in which no
-- caller made an entry
pub record IsHeir (accepts : Accepts) (callers : ℕ) (log right shown published : Log) (places : List (Option ℕ)) : Type 0 where
  pub opens : right ≡ log
  pub legal : IsLegalLog accepts callers log
  pub same : shown ≡ log
  pub seen : published ≡ log
  pub none : places ≡ replicate callers None
