use Rattle.std.proofs.Common.{Some, Ok, ap, ap₂, sym, subst, ◌∙◌}
use Rattle.mp_history.specs.Entry.{Entry}
use Rattle.mp_history.specs.Log.{Log}
use Rattle.mp_mempool.specs.Answers.{IsEntered}
use Rattle.mp_mempool.proofs.Points.{is_entered}
use Rattle.mp_mempool.proofs.under_lock.enter.Goals as goal

pub returns-clause-receipt : goal.returns-clause-receipt
returns-clause-receipt g c =
    let place = c.commit-receipt.result.place in
    let tells = c.requires.ready.tells in
    let now = c.commit-receipt.ensures.pass
    ∙ ap₂ (λ p (l : Log). record c.args.pass.now { last = Some p; front = l }) (sym c.commit-receipt.ensures.place) c.commit-receipt.ensures.log in
    let of_entry = is_entered g.N.PoolName.accepts g.N.PoolName.callers c.args.pass.now c.commit-receipt.new.pass c.args.locked.now.log c.args.ready.prepared.command place c.args.ready.outcome.entry
    c.last_place-last.ensures.own c.requires.begins c.requires.known tells.versions.for_pass.legal tells.caller tells.asked (c.requires.ready.prepares.reply ∙ ap Ok (sym tells.reply)) c.commit-receipt.ensures.place now in
    subst (λ (e : Entry). IsEntered g.N.PoolName.accepts g.N.PoolName.callers c.args.pass.now c.args.ready.prepared.command place e c.commit-receipt.new.pass) (sym c.commit-receipt.ensures.entry) of_entry
