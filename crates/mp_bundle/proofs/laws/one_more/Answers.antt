use Rattle.mp_bundle.proofs.LawsLemmas.{one_more}
use Rattle.mp_bundle.proofs.laws.one_more.Goals as goal

pub returns : goal.returns
returns c = one_more
