use Rattle.mp_race.proofs.Fronts.{behind-some, behind-none}
use Rattle.mp_race.proofs.history.behind.Goals as goal

pub returns-clause-some : goal.returns-clause-some
returns-clause-some c = behind-some c.args.text.now c.args.front.now c.strip_prefix.result c.strip_prefix.ensures.cases

pub returns-clause-none : goal.returns-clause-none
returns-clause-none c = behind-none c.args.text.now c.args.front.now c.strip_prefix.result c.strip_prefix.ensures.cases
