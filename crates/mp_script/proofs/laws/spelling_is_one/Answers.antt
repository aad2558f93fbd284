use Rattle.mp_script.proofs.LawsLemmas.{spelling_is_one}
use Rattle.mp_script.proofs.laws.spelling_is_one.Goals as goal

pub returns : goal.returns
returns c = spelling_is_one
