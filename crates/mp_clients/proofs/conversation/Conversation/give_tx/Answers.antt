use Rattle.std.proofs.Common.{◌≡◌, refl, subst, rules}
use Rattle.std.specs.Prelude.{IfOk}
use Rattle.std.specs.Arc.{arc_value}
use Rattle.mp_tx.specs.Transaction.{Transaction}
use Rattle.mp_tx.specs.Spelling.{id_of}
use Rattle.mp_seqpool.specs.Command.{Submit}
use Rattle.mp_answers.specs.AnswerText.{given_text}
use Rattle.mp_serve.specs.Inside.Answer.{text_of}
use Rattle.mp_serve.proofs.Answers.{on_ok, on_err}
use Rattle.mp_clients.specs.Answers.{IsAsked, moved, same_names, same_staged}
use Rattle.mp_clients.specs.Inside.Asked.{answer_in}
use Rattle.mp_clients.proofs.Steps.{finished}
use Rattle.mp_clients.proofs.conversation.Conversation.give_tx.Goals as goal

pub returns-in-Ok-change : goal.returns-in-Ok-change
returns-in-Ok-change g c =
    let s = c.args.self.now in
    let accepts = g.N.PoolName.accepts in
    let callers = g.N.PoolName.callers in
    let made : arc_value c.in-Ok.tx ≡ c.args.tx = search rules in
    let same : c.deref-in-Ok-change.result.now ≡ c.args.tx = search rules in
    let asked = subst (λ (t : Transaction). IsAsked accepts callers s.client (Submit t) (moved s.client) (answer_in c.in-Ok-change.asked) c.change.new.self) made c.in-Ok-change.ensures.ok in
    let said = subst (λ (t : Transaction). IfOk c.finish_given.result (λ a. text_of a ≡ given_text s.names (answer_in c.in-Ok-change.asked) (id_of t))) same c.finish_given.ensures.ok in
    let both = finished accepts callers s (Submit c.args.tx) (moved s.client) (same_names s) (same_staged s) (λ a. given_text s.names a (id_of c.args.tx)) (answer_in c.in-Ok-change.asked) c.change.new.self c.finish_given.new.client s.names s.staged c.finish_given.result
    asked (λ f p. refl) (λ f. refl) refl said c.finish_given.ensures.client (on_ok c.finish_given.result _ refl) c.finish_given.ensures.err c.finish_given.ensures.same (on_err c.finish_given.result _ refl) in
    record { ok = both.0; err = both.1 }
