use Rattle.mp_bundle.proofs.LawsLemmas.{quantities_determine}
use Rattle.mp_bundle.proofs.laws.quantities_determine.Goals as goal

pub returns : goal.returns
returns c = quantities_determine
