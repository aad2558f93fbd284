use Rattle.std.proofs.lemmas.Result.{err_from_is_err_and}
use Rattle.mp_script.proofs.ScriptLaws.{spelled_is_not_refused}
use Rattle.mp_script.proofs.script.Script.decode.Goals as goal

pub returns-in_err-check-clause-only : goal.returns-in_err-check-clause-only
returns-in_err-check-clause-only c t s =
    let p = err_from_is_err_and c.from_residual.result c.from_residual.ensures.1 in
    rw (p.1, p.2) (spelled_is_not_refused c.in_err-check.field-0.0 c.args.bytes.now t s c.in_err-check.ensures.err)
