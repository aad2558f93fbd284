use Rattle.std.proofs.Common.{◌+◌, ◌++◌, ◌∷◌, [], refl, sym, ap, subst, ◌∙◌, arith}
use Rattle.std.specs.Arc.{arc_value}
use Rattle.mp_tx.specs.Spelling.{size_of}
use Rattle.mp_versions.specs.Version.{Version}
use Rattle.mp_versions.specs.Layout.{items_in}
use Rattle.mp_seqpool.specs.SlowPool.{HasPlace}
use Rattle.mp_versions.proofs.Gone.{count_within}
use Rattle.mp_versions.proofs.Counting.{counted_more}
use Rattle.mp_versions.proofs.version.Version.with_tx.Goals as goal

pub overflow_add-result : goal.overflow_add-result
overflow_add-result c =
    let v = c.self.inside in
    let place = subst (λ (w : Version). HasPlace w.pool (arc_value c.args.tx.now)) (sym c.self.view_is) c.requires in
    let few = count_within 0 v.last (items_in v.layout) (omega arith) c.self.invariant.rising c.self.invariant.given in
    let count = c.self.invariant.count in
    let ticket = place.ticket in
    record { fits = omega (arith, few, count, ticket) }

pub invariant_of-result : goal.invariant_of-result
invariant_of-result c =
    let v = c.self.inside in
    let t = arc_value c.args.tx.now in
    let place = subst (λ (w : Version). HasPlace w.pool t) (sym c.self.view_is) c.requires in
    let change = place.change in
    counted_more v _ t c.size.result c.self.invariant (c.in_ok-grown.ensures.items ∙ ap (λ tx. items_in v.layout ++ (v.last + 1, tx) ∷ []) c.in_ok-try_clone.ensures) c.in_ok-grown.ensures.laid refl refl (c.size.ensures.size ∙ ap size_of c.deref.ensures) refl place.bytes (omega (arith, change))
