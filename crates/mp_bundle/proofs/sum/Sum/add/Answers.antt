use Rattle.std.proofs.Common.{rules, arith, ℤ, ◌+◌, ◌+ℤ◌, to_z, of_z, sym, subst, ◌∙◌, ◌<◌, ◌^◌, ◌≡◌}
use Rattle.std.specs.Prelude.{FitsSigned}
use Rattle.std.specs.Int.{w64, w128}
use Rattle.std.proofs.lemmas.Int.{ints}
use Rattle.mp_bundle.specs.Bundle.{SplitsCoin}
use Rattle.mp_bundle.specs.Sum.{Sum, Adds}
use Rattle.mp_bundle.specs.Inside.Sum.{sum_of, IsHeld}
use Rattle.mp_bundle.proofs.SumLemmas.{same_sum, room_kept, coin_fits, others_fit, next_kept, next_adds}
use Rattle.mp_bundle.proofs.sum.Sum.add.Goals as goal

pub returns-in_err-make_room-clause-err : goal.returns-in_err-make_room-clause-err
returns-in_err-make_room-clause-err c =
    let same : sum_of (record { coin = c.self.inside.coin; totals = c.make_room.new.totals; added = c.self.inside.added }) ≡ c.args.self.now = same_sum c.self.inside c.make_room.new.totals c.self.invariant c.make_room.ensures.kept ∙ c.self.view_is in
    search rules

pub invariant_of-self : goal.invariant_of-self
invariant_of-self c = room_kept c.self.inside c.make_room.new.totals c.self.invariant c.make_room.ensures.kept

pub raise_all-requires-clause-fits : goal.raise_all-requires-clause-fits
raise_all-requires-clause-fits c =
    let few = subst (λ (s : Sum). s.added < 2 ^ 32) (sym c.self.view_is) c.requires in
    others_fit c.self.inside c.make_room.new.totals c.self.invariant c.make_room.ensures.kept c.args.bundle.now c.others-others.ensures.bundle few c.coin-coin.result c.others-others.result.now (subst (λ n. SplitsCoin c.args.bundle.now n c.others-others.result.now) (sym c.coin-coin.ensures) c.others-others.ensures.split)

pub overflow_add-self : goal.overflow_add-self
overflow_add-self c =
    let few = subst (λ (s : Sum). s.added < 2 ^ 32) (sym c.self.view_is) c.requires in
    let fits = coin_fits c.self.inside c.make_room.new.totals c.self.invariant c.make_room.ensures.kept c.args.bundle.now c.others-others.ensures.bundle few c.coin-coin.result c.others-others.result.now (subst (λ n. SplitsCoin c.args.bundle.now n c.others-others.result.now) (sym c.coin-coin.ensures) c.others-others.ensures.split) in
    let small : FitsSigned w64 c.coin-coin.result = search rules in
    let held : FitsSigned w128 c.self.inside.coin = search rules in
    omega (arith, ints, c.from.ensures, fits.least, fits.greatest)

-- the sum of coin fits, so it is what is stored
coin_is : (c : goal.After-self-3-1) → to_z w128 (of_z w128 (to_z w128 (of_z w128 c.self.inside.coin) +ℤ to_z w128 (of_z w128 c.from.result))) ≡ c.self.inside.coin +ℤ c.coin-coin.result
coin_is c =
    let few = subst (λ (s : Sum). s.added < 2 ^ 32) (sym c.self.view_is) c.requires in
    let fits = coin_fits c.self.inside c.make_room.new.totals c.self.invariant c.make_room.ensures.kept c.args.bundle.now c.others-others.ensures.bundle few c.coin-coin.result c.others-others.result.now (subst (λ n. SplitsCoin c.args.bundle.now n c.others-others.result.now) (sym c.coin-coin.ensures) c.others-others.ensures.split) in
    let small : FitsSigned w64 c.coin-coin.result = search rules in
    let held : FitsSigned w128 c.self.inside.coin = search rules in
    omega (arith, ints, c.from.ensures, fits.least, fits.greatest)

pub invariant_of-self-2 : goal.invariant_of-self-2
invariant_of-self-2 c =
    let few = subst (λ (s : Sum). s.added < 2 ^ 32) (sym c.self.view_is) c.requires in
    subst (λ (n : ℤ). IsHeld (record { coin = n; totals = c.raise_all.new.totals; added = c.self.inside.added + 1 })) (sym (coin_is c))
    (next_kept c.self.inside c.make_room.new.totals c.self.invariant c.make_room.ensures.kept c.args.bundle.now c.others-others.ensures.bundle few c.coin-coin.result c.others-others.result.now (subst (λ n. SplitsCoin c.args.bundle.now n c.others-others.result.now) (sym c.coin-coin.ensures) c.others-others.ensures.split) c.raise_all.new.totals c.raise_all.ensures)

pub returns-clause-ok : goal.returns-clause-ok
returns-clause-ok c =
    let few = subst (λ (s : Sum). s.added < 2 ^ 32) (sym c.self.view_is) c.requires in
    let adds = next_adds c.self.inside c.make_room.new.totals c.self.invariant c.make_room.ensures.kept c.args.bundle.now c.others-others.ensures.bundle few c.coin-coin.result c.others-others.result.now (subst (λ n. SplitsCoin c.args.bundle.now n c.others-others.result.now) (sym c.coin-coin.ensures) c.others-others.ensures.split) c.raise_all.new.totals c.raise_all.ensures in
    rw (← c.self.view_is)
    (subst (λ (n : ℤ). Adds (sum_of c.self.inside) c.args.bundle.now (sum_of (record { coin = n; totals = c.raise_all.new.totals; added = c.self.inside.added + 1 }))) (sym (coin_is c)) adds)
