use Rattle.std.proofs.Common.{codes}
use Rattle.clap.specs.Words.{rule_of, with_rule}
use Rattle.mp_main.specs.CommandLine as spec
use Rattle.mp_main.proofs.Commands.{ruled}
use Rattle.mp_main.proofs.command_line.program.add_wishes.Goals as goal

pub returns : goal.returns
returns c = λ a h.
    let history = spec.output_rule (codes "history") in
    let picture = spec.output_rule (codes "svg") in
    let with_history = with_rule a history in
    let with_picture = with_rule with_history picture in
    let by_history = ruled c.add_arg.result a (rule_of c.value_option-history.result) history
    c.value_option-history.ensures.rule (c.add_arg.ensures a h) in
    let by_picture = ruled c.add_arg-command.result with_history (rule_of c.value_option-picture.result) picture
    c.value_option-picture.ensures.rule (c.add_arg-command.ensures with_history by_history) in
    ruled c.add_arg-2.result with_picture (rule_of c.verify_us_option.result) spec.verify_us_rule
    c.verify_us_option.ensures.rule (c.add_arg-2.ensures with_picture by_picture)
