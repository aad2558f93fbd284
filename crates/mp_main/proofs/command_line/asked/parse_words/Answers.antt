use Rattle.std.proofs.Common.{◌∙◌, ◌≤◌, map, sym, subst}
use Rattle.clap.specs.Kinds.{HasKind}
use Rattle.mp_main.specs.CommandLine as spec
use Rattle.mp_main.specs.Inside.Taken.{IsTaken}
use Rattle.mp_main.proofs.NamedFiles.{are_few, of_memory, of_words}
use Rattle.mp_main.proofs.Taken.{taken}
use Rattle.mp_main.proofs.command_line.asked.parse_words.Goals as goal

pub read_matches-requires : goal.read_matches-requires
read_matches-requires g c =
    let words = map g.S.AsStr.text c.args.words.now in
    let alike = c.in_ok-program.ensures in
    let none = sym (alike.faults words) ∙ c.in-Ok.ensures.kinds alike.free in
    let met = (c.in-Ok.ensures.matches alike.simple).1 ∙ alike.met words in
    record {
      taken = subst IsTaken (sym met) (taken words none);
      clients = c.in-Ok-clients_in.ensures.files;
      most = are_few _ c.in-Ok-clients_in.ensures.taken;
    }

pub returns-in-Ok-clause-passes : goal.returns-in-Ok-clause-passes
returns-in-Ok-clause-passes g c =
    λ _ few.
    let words = map g.S.AsStr.text c.args.words.now in
    let alike = c.in_ok-program.ensures in
    let met = (c.in-Ok.ensures.matches alike.simple).1 ∙ alike.met words in
    of_memory (spec.clients_of (spec.met_in words)) c.in-Err-clients_in.error few
    (subst (λ m. HasKind (spec.clients_fault (spec.clients_of m)) c.in-Err-clients_in.error) met c.in-Err-clients_in.ensures.taken)

pub returns-clause-taken : goal.returns-clause-taken
returns-clause-taken g c =
    let alike = c.in_ok-program.ensures in
    of_words _ _ c.in-Err.error
    (subst (λ kinds. HasKind kinds c.in-Err.error) (alike.faults (map g.S.AsStr.text c.args.words.now))
    (c.in-Err.ensures.kinds alike.free))
