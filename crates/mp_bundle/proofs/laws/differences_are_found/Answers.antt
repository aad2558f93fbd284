use Rattle.mp_bundle.proofs.LawsLemmas.{differences_are_found}
use Rattle.mp_bundle.proofs.laws.differences_are_found.Goals as goal

pub returns : goal.returns
returns c = differences_are_found
