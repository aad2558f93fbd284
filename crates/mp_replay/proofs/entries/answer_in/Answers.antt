use Rattle.std.proofs.Common.{refl}
use Rattle.mp_replay.proofs.EntryLines.{behind_front, no_caller}
use Rattle.mp_replay.proofs.entries.answer_in.Goals as goal

pub returns-in-None-clause-err : goal.returns-in-None-clause-err
returns-in-None-clause-err c = (
  refl,
  no_caller c.args.place c.args.line.now c.in-Some-behind_number.rest.now
      (behind_front c.args.place c.args.line.now c.in-Some.rest.now c.in-Some-behind_number.rest.now c.in-Some.ensures.some c.in-Some-behind_number.ensures.some)
      c.in-None.ensures.none,
)
