use Rattle.std.proofs.Common.{◌≡◌, ◌<◌, ◌∷◌, [], ◌+◌, ap, ◌∙◌, sym, length, take, drop, arith}
use Rattle.std.proofs.lemmas.Bool.Decides.{nat_tests}
use Rattle.std.proofs.lemmas.List.{take_rest, take_all, drop_all}
use Rattle.mp_text.specs.Lines.{lines_of}
use Rattle.mp_text.proofs.FirstLine.{lines_of-cut}
use Rattle.mp_text.proofs.lines.first_line.Goals as goal

pub returns-then-end-text-clause-first : goal.returns-then-end-text-clause-first
returns-then-end-text-clause-first c =
    let text = c.args.text.now in
    let end = c.length_before-end.result in
    lines_of-cut text end (omega arith) c.length_before-end.ensures.first ∙ ap (λ rest. take end text ∷ lines_of rest) (sym (take_rest text (end + 1)))

pub returns-else-end-text-clause-first : goal.returns-else-end-text-clause-first
returns-else-end-text-clause-first c =
    let text = c.args.text.now in
    let end = c.length_before-end.result in
    let some : 0 < length text = grind (arith, nat_tests) in
    let whole : take end text ≡ text = take_all end text (omega arith) in
    let none : drop (end + 1) text ≡ [] = drop_all (end + 1) text (omega arith) in
    let nothing : drop end text ≡ [] = drop_all end text (omega arith) in
    lines_of-cut text end some c.length_before-end.ensures.first
    ∙ ap (λ line. line ∷ lines_of (drop (end + 1) text)) whole
    ∙ ap (λ rest. text ∷ lines_of rest) (none ∙ sym nothing ∙ sym (take_rest text end))
