use Rattle.std.proofs.Common.{◌≡◌, refl, subst, rules}
use Rattle.std.specs.Prelude.{OnOk}
use Rattle.mp_tx.specs.Transaction.{Transaction}
use Rattle.std.specs.Arc.{arc_value}
use Rattle.mp_seqpool.specs.Command.{Submit}
use Rattle.mp_answers.specs.AnswerText.{answer_text}
use Rattle.mp_serve.specs.Request.{reported_if}
use Rattle.mp_clients.specs.Answers.{moved, same_staged}
use Rattle.mp_clients.specs.Inside.Asked.{answer_in}
use Rattle.mp_clients.proofs.Steps.{finished}
use Rattle.mp_clients.proofs.conversation.Conversation.submit.Goals as goal

pub returns-in-Ok-change : goal.returns-in-Ok-change
returns-in-Ok-change g c =
    let s = c.args.self.now in
    let same : c.deref-in-Ok-change.result.now ≡ arc_value c.args.tx = search rules in
    let named = subst (λ (t : Transaction). OnOk c.finish_submit.result (c.finish_submit.new.names ≡ reported_if s.names c.args.name.now t (answer_in c.in-Ok-change.asked))) same c.finish_submit.ensures.names in
    let both = finished g.N.PoolName.accepts g.N.PoolName.callers s (Submit (arc_value c.args.tx)) (moved s.client) (reported_if s.names c.args.name.now (arc_value c.args.tx)) (same_staged s) (answer_text s.names) (answer_in c.in-Ok-change.asked) c.change.new.self c.finish_submit.new.client c.finish_submit.new.names s.staged c.finish_submit.result
    c.in-Ok-change.ensures.ok (λ f p. refl) (λ f. refl) refl c.finish_submit.ensures.ok c.finish_submit.ensures.client named c.finish_submit.ensures.err c.finish_submit.ensures.same c.finish_submit.ensures.kept in
    record { ok = both.0; err = both.1 }
