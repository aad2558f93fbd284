use Rattle.mp_history.proofs.Law.{core_law}
use Rattle.mp_history.proofs.laws.interleavings.Goals as goal

pub returns : goal.returns
returns c = core_law
