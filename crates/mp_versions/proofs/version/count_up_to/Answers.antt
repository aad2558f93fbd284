use Rattle.std.proofs.Common.{arith}
use Rattle.mp_versions.specs.Layout.{items_in}
use Rattle.mp_versions.proofs.Gone.{count_within}
use Rattle.mp_versions.proofs.version.count_up_to.Goals as goal

pub count_of-requires : goal.count_of-requires
count_of-requires c =
    let few = count_within 0 c.args.last (items_in c.args.layout.now) (omega arith) c.requires.rising c.requires.given in
    let fits = c.ranges.last.fits in
    omega (arith, few, fits)
