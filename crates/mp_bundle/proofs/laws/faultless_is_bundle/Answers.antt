use Rattle.mp_bundle.proofs.LawsLemmas.{faultless_is_bundle}
use Rattle.mp_bundle.proofs.laws.faultless_is_bundle.Goals as goal

pub returns : goal.returns
returns c = faultless_is_bundle
