use Rattle.mp_ed25519.proofs.Chain.{good-sum}
use Rattle.mp_ed25519.proofs.laws.good_is_sum.Goals as goal

pub returns : goal.returns
returns c = good-sum
