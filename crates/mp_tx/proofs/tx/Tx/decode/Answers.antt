use Rattle.std.proofs.Common.{arith, sym, ap, subst, ◌∙◌}
use Rattle.std.proofs.lemmas.Result.{err_from_is_err_and}
use Rattle.sha2.specs.Sha256.{sha256}
use Rattle.mp_tx.specs.Spelling.{id_of}
use Rattle.mp_tx.specs.Parts.{Spells}
use Rattle.mp_tx.specs.TxFault.{parts_of}
use Rattle.mp_tx.proofs.PartsFaults.{only_memory}
use Rattle.mp_tx.proofs.TxReading.{transaction_was, transaction_again, size_is}
use Rattle.mp_tx.proofs.tx.Tx.decode.Goals as goal

pub returns-in_err-body-clause-only : goal.returns-in_err-body-clause-only
returns-in_err-body-clause-only c t s =
    let p = err_from_is_err_and c.from_residual.result c.from_residual.ensures.1 in
    rw (p.1, p.2) (only_memory c.in_err-body.field-0.0 (λ other. let e = sym (transaction_again c.args.bytes.now t s) ∙ c.in_err-body.ensures.read other in Prim.cc))

pub keep-requires-clause-fits : goal.keep-requires-clause-fits
keep-requires-clause-fits c =
    (transaction_was c.args.bytes.now (parts_of c.fill_parts.new.parts) (λ i. omega (arith, c.type_inv.bytes i)) c.in_ok-body.ensures.read).spells.fits

pub keep-requires-clause-id : goal.keep-requires-clause-id
unfolding id_of
keep-requires-clause-id c = c.digest.ensures ∙ ap sha256 c.in_ok-body.ensures.body

pub keep-requires-clause-size : goal.keep-requires-clause-size
keep-requires-clause-size c =
    let w = transaction_was c.args.bytes.now (parts_of c.fill_parts.new.parts) (λ i. omega (arith, c.type_inv.bytes i)) c.in_ok-body.ensures.read in
    sym (size_is c.args.bytes.now (parts_of c.fill_parts.new.parts) w.spells.spelled)

pub returns-clause-found : goal.returns-clause-found
returns-clause-found c =
    let w = transaction_was c.args.bytes.now (parts_of c.fill_parts.new.parts) (λ i. omega (arith, c.type_inv.bytes i)) c.in_ok-body.ensures.read in
    subst (Spells c.args.bytes.now) (sym c.in_ok-keep.ensures) w.spells
