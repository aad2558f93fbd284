use Rattle.std.proofs.Common.{arith, ◌∙◌}
use Rattle.mp_tx.specs.TxFault.{parts_of}
use Rattle.mp_tx.specs.Spelling.{body}
use Rattle.mp_tx.proofs.TxReading.{body_was, rest_shorter, front_is, same_body}
use Rattle.mp_tx.proofs.decoding.fill_parts.Goals as goal

pub slice_bounds-body-count : goal.slice_bounds-body-count
slice_bounds-body-count c =
    let b = body_was c.args.bytes.now (parts_of c.fill_body.new.parts, c.in_ok-rest.rest.now) (λ i. omega (arith, c.type_inv.bytes i)) c.in_ok-rest.ensures.read in
    rest_shorter c.args.bytes.now (body (parts_of c.fill_body.new.parts)) c.in_ok-rest.rest.now b.takes.parts

pub returns-clause-body : goal.returns-clause-body
returns-clause-body c =
    let b = body_was c.args.bytes.now (parts_of c.fill_body.new.parts, c.in_ok-rest.rest.now) (λ i. omega (arith, c.type_inv.bytes i)) c.in_ok-rest.ensures.read in
    front_is c.args.bytes.now (body (parts_of c.fill_body.new.parts)) c.in_ok-rest.rest.now b.takes.parts
    ∙ same_body (parts_of c.fill_body.new.parts) c.fill_signatures.new.signatures.items
