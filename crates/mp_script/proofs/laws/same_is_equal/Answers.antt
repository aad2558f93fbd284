use Rattle.mp_script.proofs.LawsLemmas.{same_is_equal}
use Rattle.mp_script.proofs.laws.same_is_equal.Goals as goal

pub returns : goal.returns
returns c = same_is_equal
