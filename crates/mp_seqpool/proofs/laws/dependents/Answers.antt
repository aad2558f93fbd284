use Rattle.mp_seqpool.proofs.DependentsFollowed.{dependents}
use Rattle.mp_seqpool.proofs.laws.dependents.Goals as goal

pub returns : goal.returns
returns c accepts p ids law apart = dependents accepts p ids law apart
