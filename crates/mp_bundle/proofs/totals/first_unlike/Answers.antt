use Rattle.mp_bundle.proofs.TotalsLemmas.{rising_entries}
use Rattle.mp_bundle.proofs.totals.first_unlike.Goals as goal

pub returns-then-total_at-total-clause-rising : goal.returns-then-total_at-total-clause-rising
returns-then-total_at-total-clause-rising c = rising_entries c.args.totals.now.entries c.into_iter-token-iterator.ensures.into_iter_gives.5

pub returns-clause-rising : goal.returns-clause-rising
returns-clause-rising c = rising_entries c.args.totals.now.entries c.into_iter-token-iterator.ensures.into_iter_gives.5
