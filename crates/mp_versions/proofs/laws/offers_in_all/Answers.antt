use Rattle.mp_versions.proofs.Turns.{offered_once_in_all}
use Rattle.mp_versions.proofs.laws.offers_in_all.Goals as goal

pub returns : goal.returns
returns c = offered_once_in_all
