use Rattle.std.proofs.Common.{◌≡◌, ℕ, ◌+◌, List, [], ◌∷◌, ◌++◌, take, length, sym, ap, subst, ◌∙◌, arith}
use Rattle.std.proofs.lemmas.List.{take_more, length-take-le}
use Rattle.mp_mempool.specs.Pass.{Pass}
use Rattle.mp_race.specs.Inside.Work.{AreNumbered}
use Rattle.mp_race.proofs.Ordered.{numbered-push}
use Rattle.mp_race.proofs.ordering.all_know.Goals as goal

pub loop-number-preserved : goal.loop-number-preserved
loop-number-preserved g c =
    let ps : List Pass = c.args.passes.now in
    let k : ℕ = c.loop-number.number in
    let p : Pass = c.index-passes-number.result in
    let more : take (k + 1) ps ≡ take k ps ++ p ∷ [] = take_more ps k p c.loop-number-test.true ∙ ap (λ x. take k ps ++ x ∷ []) (sym c.index-passes-number.is) in
    let first : length (take k ps) ≡ 0 + length (take k ps) = omega arith in
    let at : p.caller ≡ 0 + length (take k ps) = c.knows.ensures.number c.if-not-knows.false ∙ sym (length-take-le k ps (omega (arith, c.loop-number-test.true))) ∙ first in
    subst (AreNumbered c.args.entries.now 0) (sym more) (numbered-push c.args.entries.now 0 (take k ps) p c.loop-number.invariant at (c.knows.ensures.last c.if-not-knows.false))
