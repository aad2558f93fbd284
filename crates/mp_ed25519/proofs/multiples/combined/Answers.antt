use Rattle.std.proofs.Common.{arith, ap, ◌≡◌, ◌≤◌, ◌<◌, ◌∙◌, ◌-◌, ◌/◌, ◌%◌, sym, subst, List, ℕ, [], ◌∷◌, drop, length, get_or}
use Rattle.std.proofs.Math.ListN.{drop_of_length-le}
use Rattle.mp_ed25519.specs.declared.point.ProjectivePoint.{ProjectivePoint}
use Rattle.mp_ed25519.specs.Curve.{Point, combined, multiple, shifted_sum, sum}
use Rattle.mp_ed25519.specs.Inside.Points.{IsProjective, completed, point}
use Rattle.mp_ed25519.proofs.Bytes.{drop-more}
use Rattle.mp_ed25519.proofs.multiples.combined.Goals as goal

of_equal : (f : ProjectivePoint) (p q : Point) → IsProjective f p → p ≡ q → IsProjective f q
of_equal f p q h e = subst (IsProjective f) e h

pub loop-i-init : goal.loop-i-init
unfolding combined
loop-i-init c = λ b a hb ha.
    let k = drop 32 c.args.k.now in
    let all : length c.args.s.now ≤ 32 = omega arith in
    let none : drop 32 c.args.s.now ≡ [] = drop_of_length-le c.args.s.now all in
    of_equal c.projective-sum.result _ _ c.projective-sum.ensures (c.neutral.ensures ∙ sym (ap (λ (l : List ℕ). combined b a l k) none))

pub loop-i-preserved : goal.loop-i-preserved
unfolding combined
loop-i-preserved c = λ b a hb ha.
    let ss = c.args.s.now in
    let ks = c.args.k.now in
    let i = c.loop-i.i in
    let s = get_or ss (i - 1) 0 in
    let k = get_or ks (i - 1) 0 in
    let before = combined b a (drop i ss) (drop i ks) in
    let high : completed c.shifted_sum.result ≡ shifted_sum before a (k / 16) =
    c.shifted_sum.ensures before a (c.loop-i.invariant b a hb ha) ha in
    let low : completed c.shifted_sum-in-loop-i.result ≡ shifted_sum (completed c.shifted_sum.result) a (k % 16) =
    c.shifted_sum-in-loop-i.ensures _ a c.projective-high.ensures ha in
    let found = c.index-long-s in
    let less : s < 256 = omega arith in
    let added : completed c.add.result ≡ sum (point c.extended-low.result) (multiple b s) =
    c.add.ensures (multiple b s) (hb s less found.result found.is) in
    let ds = drop-more ss (i - 1) i (omega arith) (omega arith) in
    let dk = drop-more ks (i - 1) i (omega arith) (omega arith) in
    let split = ap (λ (l : List ℕ). combined b a l (drop (i - 1) ks)) ds ∙ ap (combined b a (s ∷ drop i ss)) dk in
    of_equal c.projective-sum-in-loop-i.result _ _ c.projective-sum-in-loop-i.ensures
    (added ∙ ap (λ (x : Point). sum x (multiple b s))
    (c.extended-low.ensures ∙ low ∙ ap (λ (x : Point). shifted_sum x a (k % 16)) high) ∙ sym split)
