use Rattle.mp_versions.proofs.Beginnings as beginnings
use Rattle.mp_versions.proofs.laws.longest_offer.Goals as goal

pub returns : goal.returns
returns c = beginnings.longest
