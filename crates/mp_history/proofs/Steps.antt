-- Each step preserves the rule and has its result.
use Rattle.std.proofs.Common.{◌≡◌, ◌≢◌, ℕ, ◌+◌, ◌<◌, true, false, List, [], ◌∷◌, ◌++◌, length, refl, ap, sym, ◌∙◌, subst, arith, inl, eq-eqb, None}
use Rattle.std.specs.Prelude.{◌==◌}
use Rattle.std.proofs.lemmas.List.{append-nil, length-set, length_push}
use Rattle.std.proofs.lemmas.Bool.{false≢true}
use mathlib.Core.List.{IsPrefix}
use prog.Atomic.{either}
use Rattle.logbook.specs.Pages.{Cell, cell, keeps, gives, adds, no_nib, nib, may_write, step, Moves, View}
use Rattle.mp_history.specs.Entry.{Entry}
use Rattle.mp_seqpool.specs.Pool.{Pool}
use Rattle.mp_history.specs.Inside.Noted.{Noted, no_state, notes_of, entries_of, history, right_after}
use Rattle.mp_history.specs.Inside.Rule.{IsHome, Chain, IsKept, Adds, Opens, Commits, Covers}
use Rattle.mp_history.proofs.Cells.{put, put_here, put_other, put_home, put_keeps, put_back, put_same, more}
use Rattle.mp_history.proofs.Chains.{chain-end, chain-head, kept-more, kept-note}
use Rattle.mp_history.proofs.Notes.{notes_of-own, notes_of-prefix, entries_of-one}

abbrev pub shown : List Noted → List Noted
shown log = []

abbrev pub moved : List Noted → List Noted → ℕ → Type 0
moved xs ys n = Unit {0}

abbrev pub same_number : ℕ → ℕ
same_number n = either (n == 0) 0 n

abbrev pub view_of : List Noted → ℕ → View Noted ℕ
view_of seen p = (seen, (nib may_write p 0, None))

pub adds_moves : (seen : List Noted) (ask : Noted) → Moves IsKept shown moved 0 (seen, (no_nib, None)) same_number (Adds (step 0 0 0 ask) (seen, (no_nib, None)))
adds_moves seen ask cs log kept pre away = (
  kept.first.0,
  kept.first.1,
  (
    adds,
    [],
    None,
    tt,
    subst (λ ds. IsKept (more ds) (log ++ [])) (sym (put_same cs 0 kept.first)) (subst (IsKept (more cs)) (sym (append-nil log)) (kept-more cs log kept)),
    inl (refl, refl),
    refl,
  ),
)

-- whose word isn't at home
pub not_home : (cs : List Cell) (p : ℕ) → (cell cs p).1 ≡ false → IsHome cs p → ⊥
not_home cs p is home = false≢true (sym is ∙ home.1)

abbrev pub opening : ℕ → ℕ → Pool → Noted
opening p next state = record { root = p; used = p; next = next; opening = state; entries = [] }

pub opens_moves : (seen : List Noted) (p next : ℕ) (state : Pool) → Moves IsKept shown moved 0 (view_of seen p) same_number (Opens (step 0 0 0 (opening p next state)) (view_of seen p))
opens_moves seen p next state cs log kept pre away =
    let gone = away refl in
    let out : IsHome cs p → ⊥ = not_home cs p gone.1 in
    let unopened : notes_of p log ≡ [] = chain-end cs p [] (notes_of p log) (kept.chain p) out in
    let n : Noted = opening p next state in
    let zero_there : (cell (put cs p 0) p).0 ≡ 0 = ap (λ c. c.0) (put_here cs p 0 gone.0) in
    let after : IsKept (put cs p 0) (log ++ n ∷ []) =
    kept-note cs (put cs p 0) log n p kept refl (ap (right_after p) unopened) out (put_keeps cs p 0) (put_home cs p 0 gone.0) (λ k _ ne. put_back cs p 0 k ne) (λ _. zero_there)
    (zero_there ∙ sym (ap (λ ns. length (entries_of (ns ++ n ∷ []))) unopened)) in (
      kept.first.0,
      kept.first.1,
      (
        gives,
        n ∷ [],
        None,
        refl,
        subst (λ ds. IsKept (put ds p 0) (log ++ n ∷ [])) (sym (put_same cs 0 kept.first)) after,
        inl (refl, refl),
        notes_of-own p log n (eq-eqb p p refl) ∙ ap (λ ns. ns ++ n ∷ []) unopened,
      ),
    )

-- the notes of a history that the right has seen are all
pub whole : (cs : List Cell) (root p : ℕ) (notes all : List Noted) → Chain cs root all → IsPrefix notes all → right_after root notes ≡ p → (IsHome cs p → ⊥) → notes ≡ all
whole cs root p notes all chain pre turn out =
    let rest : pre.0 ≡ [] = chain-end cs root notes pre.0 (subst (Chain cs root) (sym pre.1) chain) (λ h. out (subst (IsHome cs) turn h)) in
    sym (append-nil notes) ∙ (ap (λ r. notes ++ r) (sym rest) ∙ pre.1)

pub covers_moves : (seen : List Noted) (p : ℕ) (ask : Noted) → Moves IsKept shown moved 0 (view_of seen p) same_number (Covers (step 0 0 0 ask) (view_of seen p))
covers_moves seen p ask cs log kept pre away =
    let out : IsHome cs p → ⊥ = not_home cs p (away refl).1 in (
      kept.first.0,
      kept.first.1,
      (
        keeps,
        [],
        None,
        tt,
        subst (λ ds. IsKept ds (log ++ [])) (sym (put_same cs 0 kept.first)) (subst (IsKept cs) (sym (append-nil log)) kept),
        inl (refl, refl),
        (refl, λ root notes begins turn. whole cs root p notes (notes_of root (log ++ [])) (subst (λ l. Chain cs root (notes_of root l)) (sym (append-nil log)) (kept.chain root)) begins turn out),
      ),
    )

abbrev pub next_number : ℕ → ℕ → ℕ
next_number old n = either (n == old) (old + 1) n

pub commits_moves : (seen : List Noted) (root p old next : ℕ) (e : Entry) → 0 < length (notes_of root seen) → right_after root (notes_of root seen) ≡ p → old ≡ length (history root seen)
    → (n : Noted) → n ≡ record { root = root; used = p; next = next; opening = no_state; entries = e ∷ [] }
    → Moves IsKept shown moved root (view_of seen p) (next_number old) (Commits (step root old (old + 1) n) (view_of seen p))
commits_moves seen root p old next e opened turn counted n is cs log kept pre away =
    let gone = away refl in
    let out : IsHome cs p → ⊥ = not_home cs p gone.1 in
    let all : notes_of root seen ≡ notes_of root log = whole cs root p (notes_of root seen) (notes_of root log) (kept.chain root) (notes_of-prefix root seen log pre) turn out in
    let home : IsHome cs root = chain-head cs root (notes_of root log) (kept.chain root) (subst (λ ns. 0 < length ns) all opened) in
    let apart : root ≢ p = λ same. out (subst (IsHome cs) same home) in
    let found : (cell cs root).0 ≡ old = kept.count root home ∙ (ap (λ ns. length (entries_of ns)) (sym all) ∙ sym counted) in
    let new : next_number old (cell cs root).0 ≡ old + 1 = ap (next_number old) found ∙ ap (λ b. either b (old + 1) old) (eq-eqb old old refl) in
    let ds : List Cell = put cs root (next_number old (cell cs root).0) in
    let more_entries : length (entries_of (notes_of root log ++ n ∷ [])) ≡ old + 1 =
    ap length (entries_of-one (notes_of root log) n e (ap (λ m. m.entries) is)) ∙ (length_push (entries_of (notes_of root log)) e ∙ ap (λ k. k + 1) (ap (λ ns. length (entries_of ns)) (sym all) ∙ sym counted)) in
    let there : p < length ds = omega (arith, gone.0, length-set cs root (next_number old (cell cs root).0, true)) in
    let at_root : n.root ≡ root = ap (λ m. m.root) is in
    let after : IsKept (put ds p 0) (log ++ n ∷ []) =
    kept-note cs (put ds p 0) log n p kept (ap (λ m. m.used) is)
    (subst (λ r. right_after r (notes_of r log) ≡ p) (sym at_root) (ap (right_after root) (sym all) ∙ turn))
    out
    (λ k h. put_keeps ds p 0 k (put_keeps cs root (next_number old (cell cs root).0) k h))
    (put_home ds p 0 there)
    (λ k ne ne' h. let b = put_back ds p 0 k ne' h in let c = put_back cs root (next_number old (cell cs root).0) k (λ same. ne (same ∙ sym at_root)) b.0 in (c.0, b.1 ∙ c.1))
    (λ _. ap (λ c. c.0) (put_here ds p 0 there))
    (subst (λ r. (cell (put ds p 0) r).0 ≡ length (entries_of (notes_of r log ++ n ∷ []))) (sym at_root)
    (ap (λ c. c.0) (put_other ds p 0 root apart) ∙ (ap (λ c. c.0) (put_here cs root (next_number old (cell cs root).0) home.0) ∙ (new ∙ sym more_entries)))) in (
      home.0,
      home.1,
      (
        gives,
        n ∷ [],
        None,
        refl,
        after,
        inl (refl, refl),
        notes_of-own root log n (eq-eqb n.root root at_root) ∙ ap (λ ns. ns ++ n ∷ []) (sym all),
      ),
    )
