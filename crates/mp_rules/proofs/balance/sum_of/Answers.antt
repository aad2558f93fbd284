use Rattle.std.proofs.Common.{subst}
use Rattle.mp_bundle.specs.Sum.{Sum, AddsAll}
use Rattle.mp_bundle.proofs.LawsLemmas.{total_is_sum}
use Rattle.mp_rules.specs.Resolved.{values}
use Rattle.mp_rules.proofs.balance.sum_of.Goals as goal

pub returns : goal.returns
returns c =
    total_is_sum (values c.args.outputs.now) c.add_all.new.sum
    (subst (λ (s : Sum). AddsAll s (values c.args.outputs.now) c.add_all.new.sum) c.new-sum.ensures c.in_ok-add_all.ensures)
