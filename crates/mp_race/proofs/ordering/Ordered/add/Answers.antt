use Rattle.std.proofs.Common.{◌≡◌, ◌≤◌, ◌%◌, [], ◌∷◌, ◌++◌, length, get_or, ap, subst, ◌∙◌, rules}
use Rattle.mp_race.specs.declared.told.Done.{Done}
use Rattle.mp_race.specs.declared.told.Told.{Told}
use Rattle.mp_race.specs.History.{next_after}
use Rattle.mp_race.specs.Inside.Ordered.{told_of}
use Rattle.mp_race.proofs.Ordered.{more_ordered}
use Rattle.mp_race.proofs.ordering.Ordered.add.Goals as goal

pub returns-clause-ordered : goal.returns-clause-ordered
returns-clause-ordered c = λ ts log is before.
    let d : Done = c.args.done in
    let told : c.in_ok-told.told ≡ told_of d = c.in_ok-told.ensures in
    let at : d.receipt.place ≡ length c.args.self.now.entries.items = search rules in
    more_ordered c.args.workers ts log c.args.self.now _ d is before at
    (subst (λ (t : Told). t.task % c.args.workers ≡ t.worker) told (c.is_next.ensures.dealt c.if-not-is_next.false))
    (subst (λ (t : Told). get_or c.args.self.now.next t.worker 0 ≤ t.task) told (c.is_next.ensures.turn c.if-not-is_next.false))
    c.in_ok-push-2.ensures.items
    (c.in_ok-push.ensures.items ∙ ap (λ (t : Told). c.args.self.now.told.items ++ t ∷ []) told)
    (ap (next_after c.args.self.now.next) told)
