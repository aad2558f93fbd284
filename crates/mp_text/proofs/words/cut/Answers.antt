use Rattle.std.proofs.Common.{◌≡◌, ◌∷◌, ◌<◌, ◌∙◌, ap, sym, subst, take, drop, arith, List, ℕ}
use Rattle.mp_text.specs.Words.{words_of, IsWord}
use Rattle.mp_text.proofs.FirstWord.{words_of-cut, first_is_word, end_of, end_of-some}
use Rattle.mp_text.proofs.words.cut.Goals as goal

front : (line word : List ℕ) (n : ℕ) → n ≡ end_of line → word ≡ take n line → word ≡ take (end_of line) line
front line word n is cut = cut ∙ ap (λ m. take m line) is

back : (line rest : List ℕ) (n : ℕ) → n ≡ end_of line → rest ≡ drop n line → rest ≡ drop (end_of line) line
back line rest n is cut = cut ∙ ap (λ m. drop m line) is

pub returns-clause-first : goal.returns-clause-first
returns-clause-first c =
    let line = c.args.line.now in
    let word = front line _ _ c.length_before.ensures.first c.split_at.ensures.front in
    let rest = back line _ _ c.length_before.ensures.first c.split_at.ensures.back in
    words_of-cut line (end_of-some line c.requires.some c.requires.begins)
    ∙ ap (λ w. w ∷ words_of (drop (end_of line) line)) (sym word) ∙ ap (λ r. c.split_at.result.0.now ∷ words_of r) (sym rest)

pub returns-clause-word : goal.returns-clause-word
returns-clause-word c =
    let line = c.args.line.now in
    let word = front line _ _ c.length_before.ensures.first c.split_at.ensures.front in
    subst IsWord (sym word) (first_is_word line (end_of-some line c.requires.some c.requires.begins))

pub returns-clause-shorter : goal.returns-clause-shorter
returns-clause-shorter c =
    let some : 0 < c.length_before.result = subst (λ n. 0 < n) (sym c.length_before.ensures.first) (end_of-some c.args.line.now c.requires.some c.requires.begins) in
    omega (arith, c.split_at.ensures.back_len)
