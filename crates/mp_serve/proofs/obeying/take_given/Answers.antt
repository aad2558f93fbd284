use Rattle.std.proofs.Common.{◌≡◌, sym, subst, ◌∙◌, rules}
use Rattle.std.specs.Prelude.{IfOk, Err}
use Rattle.std.specs.Arc.{arc_value}
use Rattle.std.specs.Result.{result_err}
use Rattle.mp_tx.specs.Spelling.{id_of}
use Rattle.mp_seqpool.specs.Command.{Command, Submit}
use Rattle.mp_seqpool.proofs.Histories.{told}
use Rattle.mp_answers.specs.AnswerText.{given_text}
use Rattle.mp_signatures.specs.Scheme.{accepted_by}
use Rattle.mp_serve.proofs.Answers.{on_ok, on_err}
use Rattle.mp_serve.proofs.Pools.{refused_same}
use Rattle.mp_serve.proofs.obeying.take_given.Goals as goal

pub returns-in_default : goal.returns-in_default
returns-in_default c =
    let p = c.args.pool.now.pool in
    let command : Command = Submit (arc_value c.args.tx.now) in
    let is = told (accepted_by c.args.signatures.now) p command c.in-Err.refusal c.in-Err.ensures.refused c.in_default.not-NoMemory in
    let same : c.id-in_default.result.now ≡ id_of (arc_value c.args.tx.now) = search rules in
    record {
      pool = on_ok c.given_refused.result _ (c.in-Err.ensures.same ∙ refused_same (accepted_by c.args.signatures.now) p command c.in-Err.refusal c.requires.change is);
      text = subst (λ a. IfOk c.given_refused.result (λ r. r.0.items ≡ given_text c.args.names.now a (id_of (arc_value c.args.tx.now)))) (sym is)
          (subst (λ i. IfOk c.given_refused.result (λ r. r.0.items ≡ given_text c.args.names.now (Err c.in-Err.refusal) i)) same c.given_refused.ensures.text);
      refusal = subst (λ a. IfOk c.given_refused.result (λ r. r.1 ≡ result_err a)) (sym is) c.given_refused.ensures.refusal;
      err = on_err c.given_refused.result _ c.in-Err.ensures.same;
    }
