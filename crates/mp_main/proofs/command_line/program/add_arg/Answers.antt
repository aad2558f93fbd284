use Rattle.std.proofs.Common.{refl, subst, IfOk}
use Rattle.clap.specs.Words.{rule_of}
use Rattle.mp_main.proofs.Commands.{IsRead, added}
use Rattle.mp_main.proofs.command_line.program.add_arg.Goals as goal

pub returns : goal.returns
returns c = λ a h. added c.in_ok-command.field-0 c.args.arg a (rule_of c.args.arg) c.arg.result
    (subst (λ r. IfOk r (IsRead a)) c.in_ok-command.was h) refl c.requires.local c.arg.ensures
