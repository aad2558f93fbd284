use Rattle.std.proofs.Common.{refl, ap}
use Rattle.mp_seqpool.specs.Command.{Sync}
use Rattle.mp_answers.specs.AnswerText.{answer_text}
use Rattle.mp_serve.proofs.Answers.{on_ok, on_err}
use Rattle.mp_clients.specs.Client.{Client}
use Rattle.mp_clients.specs.Answers.{gone_on, same_names, unstaged}
use Rattle.mp_clients.specs.Inside.Asked.{answer_in}
use Rattle.mp_clients.proofs.Steps.{finished, stopped_before}
use Rattle.mp_clients.proofs.conversation.Conversation.go_on.Goals as goal

pub returns-in-Ok-go_on : goal.returns-in-Ok-go_on
returns-in-Ok-go_on g c =
    let s = c.args.self.now in
    let both = finished g.N.PoolName.accepts g.N.PoolName.callers s (Sync c.args.ledger) (gone_on s.client c.args.ledger) (same_names s) (unstaged s.staged c.args.used) (answer_text s.names) (answer_in c.in-Ok-go_on.asked) c.go_on.new.self c.finish.new.client s.names c.forget_used.new.staged c.finish.result
    c.in-Ok-go_on.ensures.ok (λ f p. refl) (λ f. refl) c.forget_used.ensures c.finish.ensures.ok c.finish.ensures.client (on_ok c.finish.result _ refl) c.finish.ensures.err c.finish.ensures.same (on_err c.finish.result _ refl) in
    record { ok = both.0; err = both.1 }

pub returns-in-Err : goal.returns-in-Err
returns-in-Err g c =
    let s = c.args.self.now in
    record { ok = tt; err = stopped_before g.N.PoolName.accepts g.N.PoolName.callers _ s _ c.in-Err.stop c.in-Err.ensures.before (ap (λ (k : Client). record s { client = k }) c.in-Err.ensures.err) }
