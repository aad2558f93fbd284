use Rattle.std.proofs.Common.{sym, ◌∙◌, subst}
use Rattle.mp_race.specs.Inside.HistoryReading.{IsApart}
use Rattle.mp_race.proofs.HistoryLines.{no_head-untold, no_head-other}
use Rattle.mp_race.proofs.history.first_head.Goals as goal

pub returns-in_default-read_head-clause-none : goal.returns-in_default-read_head-clause-none
returns-in_default-read_head-clause-none c =
    no_head-untold c.args.text.now c.in-Some.line.now _ c.in-Some.ensures.first
    (sym c.read_head.ensures.head ∙ c.in_default-read_head.is)

pub returns-clause-none : goal.returns-clause-none
returns-clause-none c =
    no_head-other c.args.text.now c.in-Some.line.now _ c.in-Some-read_head.workers c.in-Some-read_head.entries c.in-Some.ensures.first
    (sym c.read_head.ensures.head ∙ c.in-Some-read_head.is)
    (subst (IsApart c.args.text.now) (c.deref.ensures.value ∙ c.in_ok-head.ensures) c.in-None.ensures.none)
