use Rattle.std.proofs.Common.{◌≡◌, ◌∙◌, ap, ap₂, subst, IfOk}
use Rattle.std.proofs.lemmas.Result.{IfOk-weaker}
use Rattle.clap.specs.Simple.{App, app_of, with_subcommand}
use Rattle.mp_main.proofs.Commands.{IsRead}
use Rattle.mp_main.proofs.command_line.program.add_command.Goals as goal

pub returns : goal.returns
returns c = λ a b p d.
    let above = subst (λ r. IfOk r (λ k. app_of k ≡ a)) c.in_ok-program.was p in
    let below = subst (λ r. IfOk r (IsRead b)) c.in_ok-command.was d in
    IfOk-weaker c.subcommand.result _ _
    (λ k h. h.shape below.1 ∙ ap₂ with_subcommand above (ap (λ (x : App). x.top) below.0)) c.subcommand.ensures
