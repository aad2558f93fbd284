use Rattle.std.proofs.Common.{arith, ap, ◌≡◌, ◌∙◌, ◌+◌, sym, subst, List, [], ◌∷◌, ◌++◌, length}
use Rattle.std.proofs.lemmas.List.{length-append}
use Rattle.mp_ed25519.specs.declared.point.CachedPoint.{CachedPoint}
use Rattle.mp_ed25519.specs.Curve.{Point, multiple}
use Rattle.mp_ed25519.specs.Inside.Points.{IsCached, IsTable, point}
use Rattle.mp_ed25519.proofs.Tables.{multiple-next, table-append}
use Rattle.mp_ed25519.proofs.multiples.long_table.Goals as goal

pub loop-i-init : goal.loop-i-init
unfolding multiple
loop-i-init c = record {
  sized = ap length c.new-table.ensures.items;
  one = c.cached-one.ensures;
  next = c.neutral-multiple.ensures;
  made = λ j less. absurd (omega arith);
}

pub loop-i-preserved : goal.loop-i-preserved
loop-i-preserved c =
    let p = point c.args.p.now in
    let i = c.loop-i._i in
    let before = c.loop-i.table.items in
    let added : c.push.new.self.items ≡ before ++ c.cached.result ∷ [] = c.in_ok-push.ensures.items in
    let cached : IsCached c.cached.result (multiple p i) =
    subst (λ (q : Point). IsCached c.cached.result q) c.loop-i.invariant.next c.cached.ensures in
    record {
      sized = ap length added ∙ length-append before (c.cached.result ∷ [])
          ∙ ap (λ n. n + 1) c.loop-i.invariant.sized;
      one = c.cached-one.ensures;
      next = multiple-next p _ _ i c.loop-i.invariant.next
          (c.extended-multiple.ensures ∙ c.add.ensures p c.cached-one.ensures);
      made = subst (λ (t : List CachedPoint). IsTable t p (i + 1)) (sym added)
          (table-append before p i c.cached.result c.loop-i.invariant.sized c.loop-i.invariant.made cached);
    }
