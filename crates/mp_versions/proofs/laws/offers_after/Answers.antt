use Rattle.mp_versions.proofs.Rounds.{offered_after}
use Rattle.mp_versions.proofs.laws.offers_after.Goals as goal

pub returns : goal.returns
returns c = offered_after
