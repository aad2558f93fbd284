-- Tables of multiples, entry by entry.
use Rattle.std.proofs.Common.{arith, ap, ◌≡◌, ◌≢◌, ◌<◌, ◌∙◌, ◌+◌, sym, subst, suc, ℕ, List, [], ◌∷◌, ◌++◌, length, get_or, inl, inr, set}
use Rattle.std.proofs.Math.ListN.{get_or-append}
use Rattle.std.proofs.Math.Seq.{get_or-append_seam}
use Rattle.std.proofs.lemmas.Bool.{cases_lt}
use Rattle.std.proofs.lemmas.List.{get_or-set_other, get_or-set_same}
use Rattle.mp_ed25519.specs.Curve.{Point, multiple, sum}
use Rattle.mp_ed25519.specs.Inside.Points.{IsCached, IsTable}
use Rattle.mp_ed25519.specs.declared.point.CachedPoint.{CachedPoint}

same_cached : (x y : CachedPoint) (p : Point) (i j : ℕ) → y ≡ x → j ≡ i → IsCached x (multiple p i) → IsCached y (multiple p j)
same_cached x y p i j e f h =
    subst (λ (z : CachedPoint). IsCached z (multiple p j)) (sym e) (subst (λ (n : ℕ). IsCached x (multiple p n)) (sym f) h)

pub table-set : (t : List CachedPoint) (p : Point) (i : ℕ) (c : CachedPoint) →
    i < length t → IsTable t p i → IsCached c (multiple p i) → IsTable (set t i c) p (i + 1)
table-set t p i c small made h = λ j less x e. elim (cases_lt j i) [
  | inl a ↦
      let other : j ≢ i = omega arith in
      made j a x (e ∙ get_or-set_other t i j c x other)
  | inr b ↦
      let same : j ≡ i = omega arith in
      let read : x ≡ c = e ∙ ap (λ (k : ℕ). get_or (set t i c) k x) same ∙ get_or-set_same t i c x small in
      same_cached c x p i j read same h
]

pub table-append : (t : List CachedPoint) (p : Point) (i : ℕ) (c : CachedPoint) →
    length t ≡ i → IsTable t p i → IsCached c (multiple p i) → IsTable (t ++ c ∷ []) p (i + 1)
table-append t p i c size made h = λ j less x e. elim (cases_lt j i) [
  | inl a ↦
      let within : j < length t = omega arith in
      made j a x (e ∙ get_or-append t (c ∷ []) x j within)
  | inr b ↦
      let same : j ≡ i = omega arith in
      let last : j ≡ length t = omega arith in
      let read : x ≡ c = e ∙ ap (λ (k : ℕ). get_or (t ++ c ∷ []) k x) last ∙ get_or-append_seam t c [] x in
      same_cached c x p i j read same h
]

-- one more multiple
pub multiple-next : (p m n : Point) (i : ℕ) → m ≡ multiple p i → n ≡ sum m p → n ≡ multiple p (i + 1)
unfolding multiple
multiple-next p m n i e f =
    let next : suc i ≡ i + 1 = omega arith in
    f ∙ ap (λ (x : Point). sum x p) e ∙ ap (multiple p) next
