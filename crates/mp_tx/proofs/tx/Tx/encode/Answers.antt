use Rattle.std.proofs.Common.{refl, sym, ap, subst, ◌∙◌}
use Rattle.mp_tx.specs.Spelling.{spelling}
use Rattle.mp_tx.specs.Parts.{IsTransaction, Spells}
use Rattle.mp_tx.specs.Inside.Lent.{lent}
use Rattle.mp_tx.proofs.Fitting.{spelled}
use Rattle.mp_tx.proofs.TxReading.{was_written}
use Rattle.mp_tx.proofs.tx.Tx.encode.Goals as goal

pub returns-clause-spelling : goal.returns-clause-spelling
returns-clause-spelling c =
    let w = was_written (lent c.lend-parts.result) _ _ _ _ c.in_ok-bytes.ensures.items c.in_ok-put_body.ensures c.in_ok-put_signatures.ensures refl in
    w.all_is ∙ ap spelling c.lend-parts.ensures

pub returns-clause-spells : goal.returns-clause-spells
returns-clause-spells c =
    let t = lent c.lend-parts.result in
    let w = was_written t _ _ _ _ c.in_ok-bytes.ensures.items c.in_ok-put_body.ensures c.in_ok-put_signatures.ensures refl in
    let fits = subst IsTransaction (c.self.view_is ∙ sym c.lend-parts.ensures) c.self.invariant.fits in
    subst (Spells c.put_signatures.new.out.items) c.lend-parts.ensures (spelled c.put_signatures.new.out.items t c.look_at.ensures fits w.all_is)
