use Rattle.std.proofs.Common.{◌≡◌, sym, ap, subst, ◌∙◌}
use Rattle.std.specs.Prelude.{IfOk, Ok}
use Rattle.mp_tx.specs.Reading.{transaction_of}
use Rattle.mp_tx.proofs.TxReading.{transaction_again}
use Rattle.mp_serve.specs.Output.{around, output_found}
use Rattle.mp_serve.proofs.output.output_in.Goals as goal

pub returns-in-Ok : goal.returns-in-Ok
returns-in-Ok c =
    let whole : c.deref.result.now ≡ around c.args.bytes.now = c.deref.ensures.value ∙ c.in_ok-whole.ensures in
    let again : transaction_of (around c.args.bytes.now) ≡ Ok c.in-Ok.tx =
    ap transaction_of (sym whole) ∙ transaction_again c.deref.result.now c.in-Ok.tx c.in-Ok.ensures.found in
    subst (λ found. IfOk c.sole_output.result (λ o. o ≡ output_found found)) (sym again) c.sole_output.ensures
