use Rattle.mp_rules.proofs.Valid.{first_fault_is_broken}
use Rattle.mp_rules.proofs.laws.first_fault_is_broken.Goals as goal

pub returns : goal.returns
returns c = first_fault_is_broken
