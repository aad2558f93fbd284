use Rattle.std.proofs.Common.{◌∙◌}
use Rattle.mp_replay.proofs.EntryLines.{none_behind_number}
use Rattle.mp_replay.proofs.entries.behind_number.Goals as goal

pub returns-clause-none : goal.returns-clause-none
returns-clause-none c =
    none_behind_number c.args.text.now c.as_bytes.result.now c.in_ok-rest.rest.now c.args.number c.behind-2.result (c.as_bytes.ensures.value ∙ c.format.ensures.text)
    c.in_ok-rest.ensures.some c.behind-2.ensures.none
