use Rattle.std.proofs.Common.{◌∷◌, subst}
use Rattle.mp_bundle.specs.Sum.{Sum, Adds}
use Rattle.mp_bundle.proofs.LawsLemmas.{total_is_sum}
use Rattle.mp_rules.specs.Resolved.{values}
use Rattle.mp_rules.proofs.balance.sum_with.Goals as goal

pub returns : goal.returns
returns c =
    total_is_sum (c.args.bundle.now ∷ values c.args.outputs.now) c.add_all.new.sum
    (c.add.new.self, subst (λ (s : Sum). Adds s c.args.bundle.now c.add.new.self) c.new-sum.ensures c.in_ok-add.ensures.ok, c.in_ok-add_all.ensures)
