use Rattle.std.proofs.Common.{arith, refl, ◌<◌, ◌∙◌, subst, length}
use Rattle.std.proofs.lemmas.List.{length-set}
use Rattle.mp_ed25519.specs.Curve.{Point, multiple}
use Rattle.mp_ed25519.specs.Inside.Points.{IsCached, point}
use Rattle.mp_ed25519.proofs.Tables.{multiple-next, table-set}
use Rattle.mp_ed25519.proofs.multiples.short_table.Goals as goal

pub loop-j-init : goal.loop-j-init
unfolding multiple
loop-j-init c = record {
  sized = refl;
  one = c.cached-one.ensures;
  next = c.neutral-multiple.ensures;
  made = λ j less. absurd (omega arith);
}

pub loop-j-preserved : goal.loop-j-preserved
loop-j-preserved c =
    let p = point c.args.p.now in
    let i = c.loop-j.j in
    let table = c.loop-j.table in
    let less : i < length table = omega (arith, c.loop-j.invariant.sized, c.loop-j-test.true) in
    let cached : IsCached c.cached.result (multiple p i) =
    subst (λ (q : Point). IsCached c.cached.result q) c.loop-j.invariant.next c.cached.ensures in
    record {
      sized = length-set table i c.cached.result ∙ c.loop-j.invariant.sized;
      one = c.cached-one.ensures;
      next = multiple-next p _ _ i c.loop-j.invariant.next
          (c.extended-multiple.ensures ∙ c.add.ensures p c.cached-one.ensures);
      made = table-set table p i c.cached.result less c.loop-j.invariant.made cached;
    }
