use Rattle.std.proofs.Common.{◌≡◌, rules}
use Rattle.std.proofs.lemmas.Bool.Decides.{Decides-at}
use Rattle.mp_text.specs.Lines.{is_clean}
use Rattle.mp_text.proofs.CleanLine.{clean-Decides}
use Rattle.mp_text.proofs.lines.is_clean.Goals as goal

pub returns-then-line-le-MAX_LINE_BYTES-clause-clean : goal.returns-then-line-le-MAX_LINE_BYTES-clause-clean
returns-then-line-le-MAX_LINE_BYTES-clause-clean c =
    let test : c.are_printable.result ≡ is_clean c.args.line.now = search rules in
    Decides-at _ _ test (clean-Decides c.args.line.now)
