use Rattle.mp_script.proofs.LawsLemmas.{datum_is_one}
use Rattle.mp_script.proofs.laws.datum_is_one.Goals as goal

pub returns : goal.returns
returns c = datum_is_one
