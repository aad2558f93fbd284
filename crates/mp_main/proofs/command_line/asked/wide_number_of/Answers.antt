use Rattle.std.proofs.Common.{◌∙◌, arith}
use Rattle.std.specs.Str.Parse.{ParsesUnsigned, ExplainsUnsignedError, HasUnsignedDigitsIfOk}
use Rattle.clap.specs.Words.{found_of, one_of, rows_of}
use Rattle.clap.proofs.WalkLemmas.{one_text-rows}
use Rattle.mp_main.proofs.Numbers.{number_read}
use Rattle.mp_main.proofs.command_line.asked.wide_number_of.Goals as goal

pub returns : goal.returns
returns c =
    let found = found_of c.args.given.now in
    let same = one_text-rows found c.args.id.now in
    number_read 64 18446744073709551615 (omega arith) (λ bs r. ParsesUnsigned 64 10 bs r × ExplainsUnsignedError 10 bs r × HasUnsignedDigitsIfOk bs r)
    (one_of c.args.id.now (rows_of found)) c.get_one.result (λ t x g. g.0) c.requires.taken
    (λ is. c.get_one.ensures.none (same ∙ is)) (λ t is. c.get_one.ensures.value t (same ∙ is))
