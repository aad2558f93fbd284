-- The rule after a step.
use Rattle.std.proofs.Common.{◌≡◌, ◌≢◌, ℕ, ◌<◌, List, [], ◌∷◌, ◌++◌, length, refl, ap, sym, ◌∙◌, subst, arith, ⊎_elim, eq-eqb, ne_eqb}
use Rattle.std.proofs.lemmas.Bool.{cases_eq}
use Rattle.logbook.specs.Pages.{Cell, cell}
use Rattle.mp_history.specs.Inside.Noted.{Noted, notes_of, entries_of, history, right_after}
use Rattle.mp_history.specs.Inside.Rule.{IsHome, Chain, IsKept}
use Rattle.mp_history.proofs.Cells.{more, more_keeps, more_back}
use Rattle.mp_history.proofs.Notes.{notes_of-own, notes_of-other}

-- a chain holds while no word leaves home
pub chain-later : (cs ds : List Cell) → ((k : ℕ) → IsHome cs k → IsHome ds k) → (r : ℕ) (notes : List Noted) → Chain cs r notes → Chain ds r notes
chain-later cs ds up r [] chain = tt
chain-later cs ds up r (n ∷ ns) chain = (chain.0, (up r chain.1.0, chain-later cs ds up n.next ns chain.1.1))

pub chain-more : (cs : List Cell) (r : ℕ) (notes : List Noted) (n : Noted) → Chain cs r notes → n.used ≡ right_after r notes → IsHome cs (right_after r notes) → Chain cs r (notes ++ n ∷ [])
chain-more cs r [] n chain used home = (used, (home, tt))
chain-more cs r (x ∷ xs) n chain used home = (chain.0, (chain.1.0, chain-more cs x.next xs n chain.1.1 used home))

-- nothing comes after the pen whose word isn't at home
pub chain-end : (cs : List Cell) (r : ℕ) (xs ys : List Noted) → Chain cs r (xs ++ ys) → (IsHome cs (right_after r xs) → ⊥) → ys ≡ []
chain-end cs r [] [] chain away = refl
chain-end cs r [] (y ∷ ys) chain away = absurd (away chain.1.0)
chain-end cs r (x ∷ xs) ys chain away = chain-end cs x.next xs ys chain.1.1 away

-- a history that has opened has its head word at home
pub chain-head : (cs : List Cell) (r : ℕ) (notes : List Noted) → Chain cs r notes → 0 < length notes → IsHome cs r
chain-head cs r [] chain lt = absurd (omega arith)
chain-head cs r (n ∷ ns) chain lt = chain.1.0

pub kept-more : (cs : List Cell) (log : List Noted) → IsKept cs log → IsKept (more cs) log
kept-more cs log kept = record {
  first = more_keeps cs 0 kept.first;
  chain = λ root. chain-later cs (more cs) (more_keeps cs) root (notes_of root log) (kept.chain root);
  count = λ root home. let back = more_back cs root home in back.1 ∙ kept.count root back.0;
}

-- one more note, by the pen p, whose word comes home
pub kept-note : (cs ds : List Cell) (log : List Noted) (n : Noted) (p : ℕ) → IsKept cs log
    → n.used ≡ p → right_after n.root (notes_of n.root log) ≡ p → (IsHome cs p → ⊥)
    → ((k : ℕ) → IsHome cs k → IsHome ds k) → IsHome ds p
    → ((k : ℕ) → k ≢ n.root → k ≢ p → IsHome ds k → IsHome cs k × ((cell ds k).0 ≡ (cell cs k).0))
    → (p ≢ n.root → (cell ds p).0 ≡ 0)
    → (cell ds n.root).0 ≡ length (entries_of (notes_of n.root log ++ n ∷ []))
    → IsKept ds (log ++ n ∷ [])
kept-note cs ds log n p kept used turn away up home back zero_there head = record {
  first = up 0 kept.first;
  chain = chain;
  count = count;
}
  where
    own : notes_of n.root (log ++ n ∷ []) ≡ notes_of n.root log ++ n ∷ []
    own = notes_of-own n.root log n (eq-eqb n.root n.root refl)

    other : (k : ℕ) → k ≢ n.root → notes_of k (log ++ n ∷ []) ≡ notes_of k log
    other k ne = notes_of-other k log n (ne_eqb n.root k (λ e. ne (sym e)))

    chain : (k : ℕ) → Chain ds k (notes_of k (log ++ n ∷ []))
    chain k = ⊎_elim
        (λ e. subst (λ j. Chain ds j (notes_of j (log ++ n ∷ []))) (sym e) (subst (Chain ds n.root) (sym own) (chain-more ds n.root (notes_of n.root log) n (chain-later cs ds up n.root (notes_of n.root log) (kept.chain n.root)) (used ∙ sym turn) (subst (IsHome ds) (sym turn) home))))
        (λ ne. subst (Chain ds k) (sym (other k ne)) (chain-later cs ds up k (notes_of k log) (kept.chain k)))
        (cases_eq k n.root)

    -- the history of a word that isn't at home hasn't opened
    unopened : notes_of p log ≡ []
    unopened = chain-end cs p [] (notes_of p log) (kept.chain p) away

    count : (k : ℕ) → IsHome ds k → (cell ds k).0 ≡ length (history k (log ++ n ∷ []))
    count k there = ⊎_elim
        (λ e. subst (λ j. (cell ds j).0 ≡ length (history j (log ++ n ∷ []))) (sym e) (head ∙ ap (λ ns. length (entries_of ns)) (sym own)))
        (λ ne. ⊎_elim
        (λ e. subst (λ j. (cell ds j).0 ≡ length (history j (log ++ n ∷ []))) (sym e)
        (let apart : p ≢ n.root = λ same. ne (e ∙ same) in zero_there apart ∙ ap (λ ns. length (entries_of ns)) (sym (other p apart ∙ unopened))))
        (λ away'. let b = back k ne away' there in b.1 ∙ (kept.count k b.0 ∙ ap (λ ns. length (entries_of ns)) (sym (other k ne))))
        (cases_eq k p))
        (cases_eq k n.root)
