use Rattle.std.proofs.Common.{◌≡◌, ap, subst, ◌∙◌}
use Rattle.mp_tx.specs.Transaction.{Transaction}
use Rattle.mp_signatures.specs.Scheme.{accepted_by}
use Rattle.mp_seqpool.specs.Command.{Submit}
use Rattle.mp_seqpool.specs.SlowPool.{answer}
use Rattle.mp_seqpool.specs.Pool.{Pool}
use Rattle.mp_clients.specs.Client.{Client}
use Rattle.mp_clients.specs.Inside.Client.{client_of}
use Rattle.mp_clients.proofs.Clients.{limit-after}
use Rattle.mp_clients.proofs.Responses.{checks_ok}
use Rattle.mp_history.specs.Log.{Log}
use Rattle.std.proofs.Common.{sym}
use Rattle.mp_clients.proofs.client.Client.check.Goals as goal

pub answer_of-requires : goal.answer_of-requires
answer_of-requires g c =
    c.self.invariant.limit_is ∙ ap (λ (l : Log). l.opening.limit) (sym c.shown.ensures) ∙ sym (limit-after g.N.PoolName.accepts c.shown.result.now) ∙ ap (λ (p : Pool). p.limit) (sym c.version-version.ensures.state)

pub returns : goal.returns
returns g c =
    let i = c.self.inside in
    let k : Client = client_of i.pass i.signatures i.ledger i.former.items i.refused i.cursor in
    rw (← c.self.view_is) (checks_ok g.N.PoolName.accepts c.args.names.now k c.answer_line.result _ c.shown.result.now c.version-version.result.now.pool c.in_ok-answer.answer c.version-version.ensures.state c.shown.ensures (subst (λ (t : Transaction). answer (accepted_by i.signatures) c.version-version.result.now.pool (Submit t) ≡ c.in_ok-answer.answer) c.deref.ensures c.in_ok-answer.ensures) c.answer_line.ensures)
