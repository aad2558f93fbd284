use Rattle.std.proofs.Common.{ap, ◌≡◌, ◌∙◌, get_or, subst}
use Rattle.mp_ed25519.specs.declared.point.CachedPoint.{CachedPoint}
use Rattle.mp_ed25519.specs.Curve.{Point, multiple, shifted_sum, sum, twice}
use Rattle.mp_ed25519.specs.Inside.Points.{IsCached, completed, point}
use Rattle.mp_ed25519.proofs.multiples.shifted_sum.Goals as goal

pub returns : goal.returns
unfolding shifted_sum
returns c = λ q r hq hr.
    let n = c.args.times in
    let d1 : completed c.doubled.result ≡ twice q = c.doubled.ensures q hq in
    let d2 : completed c.doubled-2.result ≡ twice (completed c.doubled.result) =
    c.doubled-2.ensures _ c.projective-twice.ensures in
    let d3 : completed c.doubled-3.result ≡ twice (completed c.doubled-2.result) =
    c.doubled-3.ensures _ c.projective-four_times.ensures in
    let d4 : completed c.doubled-4.result ≡ twice (completed c.doubled-3.result) =
    c.doubled-4.ensures _ c.projective-eight_times.ensures in
    let shifted : point c.extended.result ≡ twice (twice (twice (twice q))) =
    c.extended.ensures ∙ d4 ∙ ap twice (d3 ∙ ap twice (d2 ∙ ap twice d1)) in
    let found = c.index-table-times in
    let cached : IsCached (get_or c.args.table.now n found.result) (multiple r n) =
    subst (λ (x : CachedPoint). IsCached x (multiple r n)) found.is (hr n c.requires found.result found.is) in
    c.add.ensures (multiple r n) cached ∙ ap (λ (x : Point). sum x (multiple r n)) shifted
