use Rattle.mp_ed25519.proofs.Chain.{combined-sum}
use Rattle.mp_ed25519.proofs.laws.combined_is_sum.Goals as goal

pub returns : goal.returns
returns c = combined-sum
