use Rattle.mp_rules.proofs.Valid.{valid_is_faultless}
use Rattle.mp_rules.proofs.laws.valid_is_faultless.Goals as goal

pub returns : goal.returns
returns c = valid_is_faultless
