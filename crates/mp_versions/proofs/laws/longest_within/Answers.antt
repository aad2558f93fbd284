use Rattle.mp_versions.proofs.Withins as withins
use Rattle.mp_versions.proofs.laws.longest_within.Goals as goal

pub returns : goal.returns
returns c = withins.longest_within
