use Rattle.std.proofs.Common.{codes}
use Rattle.clap.specs.Words.{new_app, rule_of, with_rule}
use Rattle.mp_main.specs.CommandLine as spec
use Rattle.mp_main.proofs.Commands.{added, ruled}
use Rattle.mp_main.proofs.command_line.program.run_command.Goals as goal

pub returns : goal.returns
returns c =
    let explained = added c.new_command.result c.explain_flag.result (new_app (codes "run")) spec.explain_rule c.arg-command.result
    c.new_command.ensures c.explain_flag.ensures.rule c.explain_flag.ensures.local c.arg-command.ensures in
    let before = with_rule (new_app (codes "run")) spec.explain_rule in
    let rule = spec.signatures_rule c.args.names in
    let signed = with_rule before rule in
    let by_signatures = ruled c.add_arg-command.result before (rule_of c.signatures_option.result) rule
    c.signatures_option.ensures.rule (c.add_arg-command.ensures before explained) in
    ruled c.add_arg.result signed (rule_of c.scenario_file.result) spec.file_rule c.scenario_file.ensures.rule
    (c.add_arg.ensures signed by_signatures)
