use Rattle.std.proofs.Common.{rules}
use Rattle.mp_tx.specs.Reading.{script_read}
use Rattle.mp_tx.proofs.Wholes.{script_is_ok}
use Rattle.mp_tx.proofs.decoding.field.read_script.Goals as goal

pub returns-in-Ok : goal.returns-in-Ok
unfolding script_read
returns-in-Ok c =
    let whole = script_is_ok c.in-Some.text.now c.in-Ok.ensures.found.1 in
    search rules
