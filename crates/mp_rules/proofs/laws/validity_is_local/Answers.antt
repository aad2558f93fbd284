use Rattle.mp_rules.proofs.Meeting.{validity_is_local}
use Rattle.mp_rules.proofs.laws.validity_is_local.Goals as goal

pub returns : goal.returns
returns c = validity_is_local
