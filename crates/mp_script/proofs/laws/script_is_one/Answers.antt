use Rattle.mp_script.proofs.LawsLemmas.{script_is_one}
use Rattle.mp_script.proofs.laws.script_is_one.Goals as goal

pub returns : goal.returns
returns c = script_is_one
