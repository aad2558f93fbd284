use Rattle.std.proofs.Common.{arith, ◌≡◌, Err}
use Rattle.std.proofs.lemmas.Result.{IfErr-weaker}
use Rattle.mp_script.specs.Script.{IsScript}
use Rattle.mp_script.specs.ScriptReading.{script_of}
use Rattle.mp_script.proofs.ScriptLaws.{depths_are_script, depths_are_refused, on_ok}
use Rattle.mp_script.proofs.script.check.Goals as goal

pub returns-clause-ok : goal.returns-clause-ok
returns-clause-ok c =
    on_ok c.check_depths.result _ (IsScript c.args.bytes.now) (λ d. depths_are_script c.args.bytes.now d.0 (λ i. omega (arith, c.type_inv.bytes i)) d.1) c.check_depths.ensures.ok

pub returns-clause-err : goal.returns-clause-err
returns-clause-err c =
    IfErr-weaker c.check_depths.result _ (λ e. script_of c.args.bytes.now ≡ Err e) (λ e. depths_are_refused c.args.bytes.now e) c.check_depths.ensures.err
