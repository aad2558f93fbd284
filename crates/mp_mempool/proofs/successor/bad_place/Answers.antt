use Rattle.std.proofs.Common.{◌≡◌, ◌<◌, sym, subst, ◌∙◌}
use Rattle.mp_mempool.proofs.Numbered.{bad_at, one_more, too_few, all_at}
use Rattle.mp_mempool.proofs.successor.bad_place.Goals as goal

pub returns-then-caller-place-clause-bad : goal.returns-then-caller-place-clause-bad
returns-then-caller-place-clause-bad g c =
    bad_at c.args.callers c.args.passes.now c.loop-place.place c.index-passes-place.result c.loop-place.invariant c.loop-place-test.true c.index-passes-place.is
    (λ same. c.if-caller-place.true (c.caller.ensures.number ∙ same))

pub loop-place-preserved : goal.loop-place-preserved
loop-place-preserved g c =
    let is : c.index-passes-place.result.caller ≡ c.loop-place.place = sym c.caller.ensures.number ∙ c.if-caller-place.false in
    one_more c.args.callers c.args.passes.now c.loop-place.place c.index-passes-place.result c.loop-place.invariant c.loop-place-test.true c.index-passes-place.is is
    (subst (λ n. c.loop-place.place < n) (sym c.requires) (subst (λ n. n < g.N.PoolName.callers) is c.caller.ensures.known))

pub returns-then-passes-callers-clause-bad : goal.returns-then-passes-callers-clause-bad
returns-then-passes-callers-clause-bad g c =
    too_few c.args.callers c.args.passes.now (all_at c.args.callers c.args.passes.now c.loop-place.place c.loop-place.invariant c.loop-place-test.false c.loop-place.auto.place-end) c.if-passes-callers.true
