use Rattle.std.proofs.Common.{◌∙◌, [], ap, codes, map, option_and_then, sym, unwrap_or}
use Rattle.clap.specs.Walk.{all_of}
use Rattle.mp_main.specs.CommandLine as spec
use Rattle.mp_main.proofs.command_line.asked.clients_in.Goals as goal

pub returns-in-None-clause-taken : goal.returns-in-None-clause-taken
unfolding spec.pairs_of
returns-in-None-clause-taken c =
    ap (λ rows. spec.clients_fault (spec.pairs_of (unwrap_or (option_and_then (all_of (codes "client")) rows) [])))
    (sym c.in-None.ensures.rows)

pub returns-in-None-clause-files : goal.returns-in-None-clause-files
unfolding spec.pairs_of
returns-in-None-clause-files c = ap (map spec.files_of) c.new.ensures.items
    ∙ ap (λ rows. spec.pairs_of (unwrap_or (option_and_then (all_of (codes "client")) rows) [])) c.in-None.ensures.rows
