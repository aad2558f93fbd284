use Rattle.std.proofs.Common.{◌++◌, sym, ap, subst, ◌∙◌}
use Rattle.std.specs.Prelude.{All}
use Rattle.std.specs.Vec.Iter.{into_iter_items}
use Rattle.std.proofs.lemmas.List.Sorted.{All-permutation}
use Rattle.mp_race.specs.Inside.Work.{IsDone}
use Rattle.mp_race.proofs.Ordered.{given, each, none_ordered}
use Rattle.mp_race.proofs.ordering.order_done.Goals as goal

pub loop-change-init : goal.loop-change-init
loop-change-init c = λ ts log all. none_ordered c.args.workers ts log c.new-ordered.result c.new-ordered.ensures.entries c.new-ordered.ensures.told c.new-ordered.ensures.next

pub loop-change-preserved : goal.loop-change-preserved
loop-change-preserved c = λ ts log all.
    let sorted = c.sort_by_key.new.self.items in
    let start = c.into_iter-change-iterator in
    let stands = sym start.ensures.into_iter_gives.0 ∙ given start.result c.loop-change.yielded c.loop-change.change-iterator c.loop-change.yielded_by
    ∙ ap (λ l. c.loop-change.yielded ++ l) c.in-Some.ensures.steps.0 in
    let all_sorted : All (IsDone ts log) sorted = All-permutation (IsDone ts log) c.args.done.items sorted c.sort_by_key.ensures.permutation all in
    let here : IsDone ts log c.in-Some.change = each (IsDone ts log) c.loop-change.yielded c.in-Some.change (into_iter_items c.next.new.self) (subst (All (IsDone ts log)) stands all_sorted) in
    c.in_ok-add.ensures.ordered ts log here (c.loop-change.invariant ts log all)
