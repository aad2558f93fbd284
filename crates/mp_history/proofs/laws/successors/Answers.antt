use Rattle.mp_history.proofs.Rising.{successor_law}
use Rattle.mp_history.proofs.laws.successors.Goals as goal

pub returns : goal.returns
returns c = successor_law
