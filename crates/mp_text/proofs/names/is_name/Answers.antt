use Rattle.std.proofs.Common.{◌≡◌, arith}
use Rattle.std.proofs.lemmas.Grind.{common_steps}
use Rattle.std.proofs.lemmas.Bool.Decides.{Decides-at}
use Rattle.mp_text.specs.Names.{is_name}
use Rattle.mp_text.proofs.NameTest.{name-Decides}
use Rattle.mp_text.proofs.names.is_name.Goals as goal

pub returns-then-word-le-MAX_NAME_BYTES-clause-name : goal.returns-then-word-le-MAX_NAME_BYTES-clause-name
returns-then-word-le-MAX_NAME_BYTES-clause-name c =
    let test : c.are_letters_or_digits.result ≡ is_name c.args.word.now = grind (arith, common_steps) in
    Decides-at _ _ test (name-Decides c.args.word.now)
