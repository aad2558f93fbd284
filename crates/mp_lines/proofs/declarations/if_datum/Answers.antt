use Rattle.std.proofs.Common.{cond, Some, None, ap, sym, ◌∙◌}
use Rattle.mp_tx.proofs.Wholes.{datum_is_ok}
use Rattle.mp_lines.proofs.declarations.if_datum.Goals as goal

pub returns-in-Ok : goal.returns-in-Ok
returns-in-Ok c =
    ap (λ t. cond t (Some c.args.bytes.now) None) (datum_is_ok c.args.bytes.now c.in-Ok.ensures.found.1) ∙ ap Some (sym c.in-Ok.ensures.found.0)
