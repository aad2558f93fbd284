use Rattle.mp_bundle.proofs.LawsLemmas.{total_is_sum}
use Rattle.mp_bundle.proofs.laws.total_is_sum.Goals as goal

pub returns : goal.returns
returns c = total_is_sum
