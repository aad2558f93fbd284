use Rattle.mp_bundle.proofs.Names.{is_padded}
use Rattle.mp_bundle.proofs.token_name.TokenName.of.Goals as goal

pub invariant_of-result : goal.invariant_of-result
invariant_of-result c = rw c.copy_from_slice.ensures.after (is_padded c.args.name.now c.requires)
