use Rattle.std.proofs.Common.{rules, refl, ◌≡◌, length, sym, ap, ◌∙◌}
use Rattle.sha2.specs.Sha256.{sha256}
use Rattle.mp_tx.specs.Spelling.{id_of}
use Rattle.mp_tx.specs.Inside.Lent.{lent}
use Rattle.mp_tx.proofs.PartsFaults.{faultless, too_large, not_small, small_enough}
use Rattle.mp_tx.proofs.TxReading.{was_written}
use Rattle.mp_tx.proofs.tx.measure.Goals as goal

pub returns-then-len-gt-MAX_BYTES-clause-fault : goal.returns-then-len-gt-MAX_BYTES-clause-fault
returns-then-len-gt-MAX_BYTES-clause-fault c =
    let t = lent c.args.parts.now in
    let w = was_written t _ _ _ _ c.in_ok-bytes.ensures.items c.in_ok-put_body.ensures c.in_ok-put_signatures.ensures refl in
    let n : c.len.result ≡ length c.put_signatures.new.out.items = search rules in
    too_large t (sym c.order_fault.ensures ∙ c.in_default.is) (not_small t c.len.result (n ∙ w.size) c.if-len-gt-MAX_BYTES.true)

pub returns-clause-fits : goal.returns-clause-fits
returns-clause-fits c =
    let t = lent c.args.parts.now in
    let w = was_written t _ _ _ _ c.in_ok-bytes.ensures.items c.in_ok-put_body.ensures c.in_ok-put_signatures.ensures refl in
    let n : c.len.result ≡ length c.put_signatures.new.out.items = search rules in
    faultless t (sym c.order_fault.ensures ∙ c.in_default.is) (small_enough t c.len.result (n ∙ w.size) c.if-len-gt-MAX_BYTES.false (sym c.if-not-has_few_parts.ensures))

pub returns-clause-id : goal.returns-clause-id
unfolding id_of
returns-clause-id c =
    let w = was_written (lent c.args.parts.now) _ _ _ _ c.in_ok-bytes.ensures.items c.in_ok-put_body.ensures c.in_ok-put_signatures.ensures refl in
    c.digest-id.ensures ∙ ap sha256 (c.deref.ensures.value ∙ w.front_is)

pub returns-clause-size : goal.returns-clause-size
returns-clause-size c =
    let w = was_written (lent c.args.parts.now) _ _ _ _ c.in_ok-bytes.ensures.items c.in_ok-put_body.ensures c.in_ok-put_signatures.ensures refl in
    let m : c.len-size.result ≡ length c.put_signatures.new.out.items = search rules in
    m ∙ w.size
