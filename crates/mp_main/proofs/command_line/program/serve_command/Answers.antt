use Rattle.std.proofs.Common.{codes}
use Rattle.clap.specs.Words.{new_app, rule_of, with_rule}
use Rattle.mp_main.specs.CommandLine as spec
use Rattle.mp_main.proofs.Commands.{added, ruled}
use Rattle.mp_main.proofs.command_line.program.serve_command.Goals as goal

pub returns : goal.returns
returns c =
    let bare = new_app (codes "serve") in
    let signed = with_rule bare (spec.signatures_rule c.args.names) in
    let salted = with_rule signed spec.salt_rule in
    let by_signatures = added c.new_command.result c.signatures_option.result bare (spec.signatures_rule c.args.names)
    c.arg-command.result c.new_command.ensures c.signatures_option.ensures.rule c.signatures_option.ensures.local c.arg-command.ensures in
    let by_salt = ruled c.add_arg-salted.result signed (rule_of c.salt_option.result) spec.salt_rule
    c.salt_option.ensures.rule (c.add_arg-salted.ensures signed by_signatures) in
    let named = with_rule salted spec.names_rule in
    let by_names = ruled c.add_arg-named.result salted (rule_of c.names_option.result) spec.names_rule
    c.names_option.ensures.rule (c.add_arg-named.ensures salted by_salt) in
    let recorded = with_rule named (spec.output_rule (codes "history")) in
    let by_history = ruled c.add_arg-recorded.result named (rule_of c.value_option-history.result) (spec.output_rule (codes "history"))
    c.value_option-history.ensures.rule (c.add_arg-recorded.ensures named by_names) in
    ruled c.add_arg.result recorded (rule_of c.client_option.result) spec.client_rule c.client_option.ensures.rule
    (c.add_arg.ensures recorded by_history)
