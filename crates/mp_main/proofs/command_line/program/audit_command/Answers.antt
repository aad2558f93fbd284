use Rattle.std.proofs.Common.{codes}
use Rattle.clap.specs.Words.{new_app, rule_of, with_rule}
use Rattle.mp_main.specs.CommandLine as spec
use Rattle.mp_main.proofs.Commands.{added, ruled}
use Rattle.mp_main.proofs.command_line.program.audit_command.Goals as goal

pub returns : goal.returns
returns c =
    let bare = new_app (codes "audit") in
    let explained = with_rule bare spec.explain_rule in
    let rule = spec.signatures_rule c.args.names in
    let signed = with_rule explained rule in
    let with_file = with_rule signed spec.audited_rule in
    let by_flag = added c.new_command.result c.explain_flag.result bare spec.explain_rule c.arg-command.result
    c.new_command.ensures c.explain_flag.ensures.rule c.explain_flag.ensures.local c.arg-command.ensures in
    let by_signatures = ruled c.add_arg-command.result explained (rule_of c.signatures_option.result) rule
    c.signatures_option.ensures.rule (c.add_arg-command.ensures explained by_flag) in
    let by_file = ruled c.add_arg.result signed (rule_of c.audited_file.result) spec.audited_rule
    c.audited_file.ensures.rule (c.add_arg.ensures signed by_signatures) in
    ruled c.add_arg-2.result with_file (rule_of c.scenario_history.result) spec.history_rule
    c.scenario_history.ensures.rule (c.add_arg-2.ensures with_file by_file)
