use Rattle.mp_bundle.proofs.LawsLemmas.{order_is_free}
use Rattle.mp_bundle.proofs.laws.order_is_free.Goals as goal

pub returns : goal.returns
returns c = order_is_free
