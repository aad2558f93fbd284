use Rattle.std.proofs.Common.{◌≡◌, refl, sym, ap, subst, ◌∙◌}
use Rattle.std.specs.Prelude.{IfOk}
use Rattle.std.specs.Arc.{arc_value}
use Rattle.std.specs.Result.{result_err}
use Rattle.mp_seqpool.specs.Command.{Command, Submit}
use Rattle.mp_seqpool.proofs.Histories.{told}
use Rattle.mp_answers.specs.AnswerText.{answer_text}
use Rattle.mp_signatures.specs.Scheme.{accepted_by}
use Rattle.mp_serve.specs.Request.{reported_if}
use Rattle.mp_serve.proofs.Answers.{on_ok, on_err}
use Rattle.mp_serve.proofs.Pools.{refused_same}
use Rattle.mp_serve.proofs.obeying.take_in.Goals as goal

pub returns-in_default : goal.returns-in_default
returns-in_default c =
    let p = c.args.pool.now.pool in
    let command : Command = Submit (arc_value c.args.tx.now) in
    let is = told (accepted_by c.args.signatures.now) p command c.in-Err.refusal c.in-Err.ensures.refused c.in_default.not-NoMemory in
    record {
      pool = on_ok c.refused.result _ (c.in-Err.ensures.same ∙ refused_same (accepted_by c.args.signatures.now) p command c.in-Err.refusal c.requires.change is);
      names = on_ok c.refused.result _ (ap (reported_if c.args.names.now c.args.name.now (arc_value c.args.tx.now)) (sym is));
      text = subst (λ a. IfOk c.refused.result (λ r. r.0.items ≡ answer_text c.args.names.now a)) (sym is) c.refused.ensures.text;
      refusal = subst (λ a. IfOk c.refused.result (λ r. r.1 ≡ result_err a)) (sym is) c.refused.ensures.refusal;
      err = on_err c.refused.result _ c.in-Err.ensures.same;
      kept = on_err c.refused.result _ refl;
    }
