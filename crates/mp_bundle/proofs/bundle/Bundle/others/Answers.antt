use Rattle.std.proofs.Common.{◌≡◌, rules, sym, ap, subst, ◌∙◌}
use Rattle.mp_bundle.specs.Bundle.{with_coin}
use Rattle.mp_bundle.specs.Inside.Bundle.{entries_in, IsParted}
use Rattle.mp_bundle.proofs.Parted.{whole_again, split_again}
use Rattle.mp_bundle.proofs.bundle.Bundle.others.Goals as goal

those : (c : goal.After-deref) → c.deref.result.now ≡ entries_in c.self.inside.others
those c = search rules

parted : (c : goal.After-deref) → IsParted c.self.inside.coin c.deref.result.now
parted c = subst (IsParted c.self.inside.coin) (sym (those c)) c.self.invariant

whole : (c : goal.After-deref) → with_coin c.self.inside.coin c.deref.result.now ≡ c.args.self.now
whole c = ap (with_coin c.self.inside.coin) (those c) ∙ c.self.view_is

pub returns-in-Some-clause-whole : goal.returns-in-Some-clause-whole
returns-in-Some-clause-whole c = whole_again c.self.inside.coin c.deref.result.now c.args.self.now (parted c) (whole c)

pub returns-in-Some-clause-split : goal.returns-in-Some-clause-split
returns-in-Some-clause-split c = split_again c.self.inside.coin c.deref.result.now c.args.self.now (parted c) (whole c)
