use Rattle.std.proofs.Common.{ap, sym, ◌∙◌}
use Rattle.std.proofs.lemmas.Result.{err_from_is_err_and}
use Rattle.mp_bytes.specs.Reading.{seen}
use Rattle.mp_script.specs.DataReading.{datum_read}
use Rattle.mp_script.proofs.Items.{next-item}
use Rattle.mp_script.proofs.walk.+walk.Goals as goal

pub items_end-returns-in_err-rest : goal.items_end-returns-in_err-rest
items_end-returns-in_err-rest t c =
    let p = err_from_is_err_and c.from_residual.result c.from_residual.ensures.1 in
    rw (p.1, p.2) (next-item (datum_read c.args.most_depth) c.args.count c.loop.counter c.loop.rest.now _ _ c.loop-test.true c.loop.invariant (ap (seen (λ r. r.now)) (sym c.in_err-rest.was) ∙ c.datum_end.ensures))

pub items_end-loop-preserved : goal.items_end-loop-preserved
items_end-loop-preserved t c =
    next-item (datum_read c.args.most_depth) c.args.count c.loop.counter c.loop.rest.now _ _ c.loop-test.true c.loop.invariant (ap (seen (λ r. r.now)) (sym c.in_ok-rest.was) ∙ c.datum_end.ensures)
