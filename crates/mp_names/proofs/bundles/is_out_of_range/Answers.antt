use Rattle.std.proofs.Common.{arith}
use Rattle.std.proofs.lemmas.Int.{ints}
use Rattle.mp_bundle.specs.BundleFault.{is_out_of_range}
use Rattle.mp_names.proofs.bundles.is_out_of_range.Goals as goal

pub returns : goal.returns
unfolding is_out_of_range
returns c = grind (arith, ints)
