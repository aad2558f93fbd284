use Rattle.std.proofs.Common.{◌++◌, ◌-◌, ◌+◌, take, ap, ◌∙◌, [], ◌∷◌}
use Rattle.std.proofs.lemmas.Map.Iter.{rest_more}
use Rattle.mp_seqpool.specs.Item.{shown, items_of}
use Rattle.mp_seqpool.proofs.Moving.{items-last}
use Rattle.mp_versions.proofs.Sharing.{one_taken, some_left, on_err}
use Rattle.mp_versions.proofs.first_items.push_first.Goals as goal

pub loop-preserved : goal.loop-preserved
loop-preserved c =
    let rest = c.next.new.self in
    let old = c.loop.items.items in
    ap (λ l. l ++ take (c.args.count - (c.loop.counter + 1)) rest)
    (ap items_of c.in_ok-push.ensures.items ∙ items-last old c.in_ok-share.field-0 ∙ ap (λ i. items_of old ++ i ∷ []) c.in_ok-share.ensures)
    ∙ one_taken c.args.count c.loop.counter (items_of old) _ c.loop.run rest (shown c.in-Some.item) c.loop-test.true (rest_more shown c.loop.run rest c.next.result c.in-Some.item c.in-Some.is c.next.ensures.steps) c.loop.invariant

pub returns-in_err-share-clause-wanting : goal.returns-in_err-share-clause-wanting
returns-in_err-share-clause-wanting c =
    let rest = c.next.new.self in
    on_err _ (some_left c.args.count c.loop.counter (items_of c.loop.items.items) _ c.loop.run rest (shown c.in-Some.item) c.loop-test.true (rest_more shown c.loop.run rest c.next.result c.in-Some.item c.in-Some.is c.next.ensures.steps) c.loop.invariant)

pub returns-in_err-push-clause-wanting : goal.returns-in_err-push-clause-wanting
returns-in_err-push-clause-wanting c =
    let rest = c.next.new.self in
    on_err _ (some_left c.args.count c.loop.counter (items_of c.loop.items.items) _ c.loop.run rest (shown c.in-Some.item) c.loop-test.true (rest_more shown c.loop.run rest c.next.result c.in-Some.item c.in-Some.is c.next.ensures.steps) c.loop.invariant)
