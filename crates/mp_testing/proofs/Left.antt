-- The remaining bytes of a failing reader after a read of its filler.
use Rattle.std.proofs.Common.{◌≡◌, ℕ, ◌+◌, ◌-◌, ◌<◌, ◌≤◌, Bool, true, false, cond, List, [], ◌++◌, sym, ap, subst, ◌∙◌, arith}
use Rattle.std.specs.Prelude.{Some, None, replicate}
use Rattle.std.specs.Io.KnownBytes.{Consumes, IsAtEnd}
use Rattle.std.proofs.lemmas.List.{replicate-append-replicate}

-- n bytes `x`
abbrev x_times : ℕ → List ℕ
x_times n = replicate n 120

parted : (n k : ℕ) → k ≤ n → x_times n ≡ x_times k ++ x_times (n - k)
parted n k le = let whole : n ≡ k + (n - k) = omega arith in ap x_times whole ∙ sym (replicate-append-replicate k (n - k) 120)

pub filler_given : (gives_none : Bool) (bytes : List ℕ) (n k : ℕ) (given : List ℕ) (room : ℕ) → bytes ≡ [] → k ≤ n → given ≡ x_times k → (gives_none ≡ false → k ≡ 0 → 0 < room → n ≡ 0)
    → Consumes (cond gives_none None (Some (bytes ++ x_times n))) (cond gives_none None (Some (bytes ++ x_times (n - k)))) given
    × (k ≡ 0 → 0 < room → IsAtEnd (cond gives_none None (Some (bytes ++ x_times (n - k)))))
filler_given true bytes n k given room none le same last = (tt, λ z some. tt)
filler_given false bytes n k given room none le same last = (
  subst (λ xs. xs ++ x_times n ≡ given ++ (xs ++ x_times (n - k))) (sym none) (subst (λ g. x_times n ≡ g ++ x_times (n - k)) (sym same) (parted n k le)),
  λ z some. let zero : n ≡ 0 = last (λ i. false) z some in let gone : n - k ≡ 0 = omega arith in subst (λ xs. xs ++ x_times (n - k) ≡ []) (sym none) (ap x_times gone),
)
