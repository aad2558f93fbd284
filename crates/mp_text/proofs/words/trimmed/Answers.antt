use Rattle.std.proofs.Common.{◌≢◌, ◌∙◌, ap, sym, subst, drop, slice_get, Some}
use Rattle.std.proofs.lemmas.List.{take_rest}
use Rattle.mp_text.specs.Words.{words_of}
use Rattle.mp_text.proofs.FirstWord.{words_of-trimmed, trimmed-begins}
use Rattle.mp_text.proofs.words.trimmed.Goals as goal

pub returns-clause-same : goal.returns-clause-same
returns-clause-same c =
    let line = c.args.line.now in
    ap words_of (take_rest line c.run_length.result) ∙ ap (λ n. words_of (drop n line)) c.run_length.ensures.first ∙ words_of-trimmed line

pub returns-clause-begins : goal.returns-clause-begins
returns-clause-begins c =
    let line = c.args.line.now in
    let same = take_rest line c.run_length.result ∙ ap (λ n. drop n line) c.run_length.ensures.first in
    subst (λ rest. slice_get rest 0 ≢ Some 32) (sym same) (trimmed-begins line)
