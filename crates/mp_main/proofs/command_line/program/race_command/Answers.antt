use Rattle.std.proofs.Common.{codes}
use Rattle.clap.specs.Words.{new_app, rule_of, with_rule}
use Rattle.mp_main.specs.CommandLine as spec
use Rattle.mp_main.proofs.Commands.{added, ruled}
use Rattle.mp_main.proofs.command_line.program.race_command.Goals as goal

pub returns : goal.returns
returns c =
    let bare = new_app (codes "race") in
    let staffed = with_rule bare spec.workers_rule in
    let wishful = spec.with_wishes staffed in
    let explained = with_rule wishful spec.explain_rule in
    let by_workers = added c.new_command.result c.workers_option.result bare spec.workers_rule c.arg-command.result
    c.new_command.ensures c.workers_option.ensures.rule c.workers_option.ensures.local c.arg-command.ensures in
    let rule = spec.signatures_rule c.args.names in
    let signed = with_rule explained rule in
    let by_flag = ruled c.add_arg-explained.result wishful (rule_of c.explain_flag.result) spec.explain_rule
    c.explain_flag.ensures.rule (c.add_arg-explained.ensures wishful (c.add_wishes.ensures staffed by_workers)) in
    let by_signatures = ruled c.add_arg-signed.result explained (rule_of c.signatures_option.result) rule
    c.signatures_option.ensures.rule (c.add_arg-signed.ensures explained by_flag) in
    ruled c.add_arg.result signed (rule_of c.scenario_file.result) spec.file_rule c.scenario_file.ensures.rule
    (c.add_arg.ensures signed by_signatures)
