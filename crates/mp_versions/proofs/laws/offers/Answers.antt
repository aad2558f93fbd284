use Rattle.mp_versions.proofs.Rounds.{offered_once}
use Rattle.mp_versions.proofs.laws.offers.Goals as goal

pub returns : goal.returns
returns c = offered_once
