use Rattle.std.proofs.Common.{arith, sym, ap, ◌∙◌}
use Rattle.std.proofs.lemmas.Bool.{eqb-true}
use Rattle.mp_bytes.specs.Reading.{seen}
use Rattle.mp_script.proofs.DataLaws.{walked_is_datum}
use Rattle.mp_script.proofs.data.check.Goals as goal

pub returns-then-is_empty-clause-ok : goal.returns-then-is_empty-clause-ok
returns-then-is_empty-clause-ok c =
    walked_is_datum c.args.bytes.now c.in_ok-datum_end.field-0.now (λ i. omega (arith, c.type_inv.bytes i)) (ap (seen (λ r. r.now)) (sym c.in_ok-datum_end.was) ∙ c.datum_end.ensures) (eqb-true _ _ (sym c.if-is_empty.ensures))
