-- Which words are at home after a step.
use Rattle.std.proofs.Common.{◌≡◌, ◌≢◌, ℕ, ◌<◌, true, false, List, [], ◌∷◌, ◌++◌, length, set, refl, ap, sym, ◌∙◌, subst, arith, ⊎_elim}
use Rattle.std.specs.Prelude.{◌==◌}
use Rattle.std.proofs.lemmas.List.{length-set, get_or-set_same, get_or-set_other, set-get_or, get_or_append_left, length_push, get_or_push}
use Rattle.std.proofs.lemmas.Bool.{cases_eq, false≢true}
use prog.Atomic.{either}
use Rattle.logbook.specs.Pages.{Cell, cell}
use Rattle.logbook.proofs.Lists.{exchanged}
use Rattle.mp_history.specs.Inside.Rule.{IsHome}

-- the cells after one of them was written, and came home
abbrev pub put : List Cell → ℕ → ℕ → List Cell
put cs k n = set cs k (n, true)

pub put_here : (cs : List Cell) (k n : ℕ) → k < length cs → cell (put cs k n) k ≡ (n, true)
put_here cs k n lt = get_or-set_same cs k (n, true) (0, false) lt

pub put_other : (cs : List Cell) (k n j : ℕ) → j ≢ k → cell (put cs k n) j ≡ cell cs j
put_other cs k n j ne = get_or-set_other cs k j (n, true) (0, false) ne

pub put_home : (cs : List Cell) (k n : ℕ) → k < length cs → IsHome (put cs k n) k
put_home cs k n lt = (omega (arith, length-set cs k (n, true)), ap (λ c. c.1) (put_here cs k n lt))

pub put_keeps : (cs : List Cell) (k n j : ℕ) → IsHome cs j → IsHome (put cs k n) j
put_keeps cs k n j home = ⊎_elim
    (λ e. subst (λ i. IsHome (put cs k n) i) (sym e) (put_home cs k n (subst (λ i. i < length cs) e home.0)))
    (λ ne. (omega (arith, home.0, length-set cs k (n, true)), ap (λ c. c.1) (put_other cs k n j ne) ∙ home.1))
    (cases_eq j k)

pub put_back : (cs : List Cell) (k n j : ℕ) → j ≢ k → IsHome (put cs k n) j → IsHome cs j × ((cell (put cs k n) j).0 ≡ (cell cs j).0)
put_back cs k n j ne home =
    let same = put_other cs k n j ne in
    ((omega (arith, home.0, length-set cs k (n, true)), ap (λ c. c.1) (sym same) ∙ home.1), ap (λ c. c.0) same)

-- an exchange of 0 for 0 changes no number
pub either_same : (n : ℕ) → either (n == 0) 0 n ≡ n
either_same n = exchanged n 0 0 (λ m. m ≡ n) (λ e. sym e) (λ _. refl)

pub put_same : (cs : List Cell) (k : ℕ) → IsHome cs k → put cs k (either ((cell cs k).0 == 0) 0 (cell cs k).0) ≡ cs
put_same cs k home =
    let is : cell cs k ≡ (either ((cell cs k).0 == 0) 0 (cell cs k).0, true) = λ i. (sym (either_same (cell cs k).0) i, home.1 i) in
    ap (set cs k) (sym is) ∙ set-get_or cs k (0, false)

-- with one more cell, that isn't at home
abbrev pub more : List Cell → List Cell
more cs = cs ++ (0, false) ∷ []

pub more_same : (cs : List Cell) (j : ℕ) → j < length cs → cell (more cs) j ≡ cell cs j
more_same cs j lt = get_or_append_left cs ((0, false) ∷ []) (0, false) j lt

pub more_keeps : (cs : List Cell) (j : ℕ) → IsHome cs j → IsHome (more cs) j
more_keeps cs j home = (omega (arith, home.0, length_push cs (0, false)), ap (λ c. c.1) (more_same cs j home.0) ∙ home.1)

pub more_back : (cs : List Cell) (j : ℕ) → IsHome (more cs) j → IsHome cs j × ((cell (more cs) j).0 ≡ (cell cs j).0)
more_back cs j home = ⊎_elim
    (λ (e : j ≡ length cs). absurd (false≢true (sym (ap (λ c. c.1) (get_or_push cs (0, false) (0, false) j (sym e))) ∙ home.1)))
    (λ ne.
    let lt : j < length cs = omega (arith, home.0, length_push cs (0, false), ne) in
    let same = more_same cs j lt in
    ((lt, ap (λ c. c.1) (sym same) ∙ home.1), ap (λ c. c.0) same))
    (cases_eq j (length cs))
