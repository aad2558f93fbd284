-- Versions that callers may hold.
use Rattle.std.specs.Prelude.{◌≡◌, ℕ}
use Rattle.mp_rules.specs.Verifier.{Accepts}
use Rattle.mp_history.specs.Log.{Log, IsLegalLog, state_after}
use Rattle.mp_versions.specs.Version.{Version}

-- the history is legal, and the version is the slow pool after it
pub record IsVersionOf (accepts : Accepts) (callers : ℕ) (log : Log) (version : Version) : Type 0 where
  pub legal : IsLegalLog accepts callers log
  pub state : version.pool ≡ state_after accepts log
