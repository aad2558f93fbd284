use Rattle.std.proofs.Common.{rules, sym, ◌∙◌}
use Rattle.mp_bundle.proofs.TotalsLemmas.{zero_put, none_from_is_some}
use Rattle.mp_bundle.proofs.totals.make_room_for.Goals as goal

pub returns-in_ok-insert-clause-kept : goal.returns-in_ok-insert-clause-kept
returns-in_ok-insert-clause-kept c = zero_put c.args.totals.now c.insert.new.self c.args.token.now (none_from_is_some _ (sym c.contains_key.ensures ∙ search rules)) c.in_ok-insert.ensures.updates
