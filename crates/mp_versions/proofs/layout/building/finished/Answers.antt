use Rattle.std.proofs.Common.{length, sym, ap, subst, arith}
use Rattle.std.proofs.lemmas.List.{length-map}
use Rattle.mp_seqpool.specs.Item.{item_of}
use Rattle.mp_versions.specs.Pages.{AreFilled}
use Rattle.mp_versions.proofs.layout.building.finished.Goals as goal

pub returns-clause-laid : goal.returns-clause-laid
returns-clause-laid c = λ all b.
    let k = c.in_ok-close_chunks.ensures.built all b in
    let m = c.close_chunks.new.built in
    let same = ap length c.in_ok-of-2.ensures in
    let seen = length-map m.items.items item_of in
    let few = k.few_items in
    record { filled = subst AreFilled (sym c.in_ok-of.ensures) k.filled; few = omega (arith, same, seen, few) }
