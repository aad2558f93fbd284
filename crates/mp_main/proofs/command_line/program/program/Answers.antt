use Rattle.std.proofs.Common.{refl, sym, subst}
use Rattle.std.proofs.lemmas.Result.{IfOk-weaker}
use Rattle.clap.specs.Simple.{App}
use Rattle.mp_main.specs.CommandLine as spec
use Rattle.mp_main.specs.Inside.Alike.{IsAlike}
use Rattle.mp_main.proofs.NamePlaces.{program_alike}
use Rattle.mp_main.proofs.command_line.program.program.Goals as goal

pub returns : goal.returns
returns c =
    let by_run = c.add_command-program.ensures spec.bare_program _ c.bare_program.ensures c.run_command.ensures in
    let by_race = c.add_command-program-2.ensures _ _ by_run c.race_command.ensures in
    let by_audit = c.add_command-program-3.ensures _ _ by_race c.audit_command.ensures in
    let by_serve = c.add_command.ensures _ _ by_audit c.serve_command.ensures in
    IfOk-weaker c.add_command.result _ _ (λ p h. subst (λ (a : App). IsAlike a spec.program) (sym h) (program_alike _ refl)) by_serve
