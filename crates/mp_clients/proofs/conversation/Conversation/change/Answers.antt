use Rattle.std.proofs.Common.{refl, ap}
use Rattle.mp_seqpool.specs.Inside.Command.{command_of}
use Rattle.mp_answers.specs.AnswerText.{answer_text}
use Rattle.mp_serve.proofs.Answers.{on_ok, on_err}
use Rattle.mp_clients.specs.Client.{Client}
use Rattle.mp_clients.specs.Answers.{moved, same_names, same_staged}
use Rattle.mp_clients.specs.Inside.Asked.{answer_in}
use Rattle.mp_clients.proofs.Steps.{finished, stopped_before}
use Rattle.mp_clients.proofs.conversation.Conversation.change.Goals as goal

pub returns-in-Ok-change : goal.returns-in-Ok-change
returns-in-Ok-change g c =
    let s = c.args.self.now in
    let both = finished g.N.PoolName.accepts g.N.PoolName.callers s (command_of c.args.command.now) (moved s.client) (same_names s) (same_staged s) (answer_text s.names) (answer_in c.in-Ok-change.asked) c.change.new.self c.finish.new.client s.names s.staged c.finish.result
    c.in-Ok-change.ensures.ok (λ f p. refl) (λ f. refl) refl c.finish.ensures.ok c.finish.ensures.client (on_ok c.finish.result _ refl) c.finish.ensures.err c.finish.ensures.same (on_err c.finish.result _ refl) in
    record { ok = both.0; err = both.1 }

pub returns-in-Err : goal.returns-in-Err
returns-in-Err g c =
    let s = c.args.self.now in
    record { ok = tt; err = stopped_before g.N.PoolName.accepts g.N.PoolName.callers _ s _ c.in-Err.stop c.in-Err.ensures.before (ap (λ (k : Client). record s { client = k }) c.in-Err.ensures.err) }
