use Rattle.std.proofs.Common.{arith}
use Rattle.mp_replay.proofs.EntryLines.{none_more}
use Rattle.mp_replay.proofs.entries.behind_caller.Goals as goal

pub loop-caller-preserved : goal.loop-caller-preserved
loop-caller-preserved c = none_more c.args.text.now c.loop-caller.caller c.loop-caller.invariant c.in_default.ensures.none

pub returns-clause-none : goal.returns-clause-none
returns-clause-none c = λ caller few. c.loop-caller.invariant caller (omega (arith, few, c.loop-caller-test.false))
