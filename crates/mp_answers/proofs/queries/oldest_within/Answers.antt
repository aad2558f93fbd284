use Rattle.std.proofs.Common.{◌≡◌, take, ap, subst, ◌∙◌}
use Rattle.std.specs.Prelude.{IfOk}
use Rattle.mp_seqpool.specs.Item.{items_of}
use Rattle.mp_seqpool.specs.Reading.{within}
use Rattle.mp_answers.proofs.Firsts.{all_within}
use Rattle.mp_answers.proofs.queries.oldest_within.Goals as goal

pub returns-clause-items : goal.returns-clause-items
returns-clause-items c =
    let room = c.args.room in
    subst (λ l. IfOk c.first_within.result (λ f. items_of f.items.items ≡ l))
    (ap (λ l. take c.len.result (within room l)) c.contents.ensures.all ∙ ap (λ n. take n (within room c.args.pool.now.pool.items)) c.len.ensures ∙ all_within room c.args.pool.now.pool.items)
    c.first_within.ensures.items
