use Rattle.std.proofs.Common.{◌≡◌, sym, ap, subst, ◌∙◌}
use Rattle.std.specs.Arc.{arc_value}
use Rattle.std.specs.Prelude.{None, Ok}
use Rattle.mp_tx.specs.Transaction.{Transaction}
use Rattle.mp_rules.specs.FirstFault.{first_fault}
use Rattle.mp_rules.proofs.Valid.{valid}
use Rattle.mp_seqpool.specs.Inside.Place.{misplaced}
use Rattle.mp_seqpool.specs.Inside.Rules.{IsBrokenRule}
use Rattle.mp_seqpool.specs.Command.{Submit}
use Rattle.mp_seqpool.specs.SlowPool.{IsRefused, unspent}
use Rattle.mp_seqpool.proofs.Chained.{valid_unsigned}
use Rattle.mp_seqpool.proofs.Exits.{passed_on}
use Rattle.mp_seqpool.proofs.Submits.{refused-misplaced, refused-broken, accepted, next-accepted}
use Rattle.mp_seqpool.proofs.pool.SeqPool.submit.Goals as goal

pub returns-in-Some-clause-refused : goal.returns-in-Some-clause-refused
returns-in-Some-clause-refused g c =
    let accepts = g.V.Verifier.accepts c.args.verifier.now in
    subst (λ (t : Transaction). IsRefused accepts c.args.self.now.pool (Submit t) c.in-Some.refusal) c.deref.ensures
    (refused-misplaced accepts c.args.self.now.pool c.deref.result.now c.in-Some.refusal (sym c.in-Some.ensures.refusal))

pub returns-in_err-resolved-clause-refused : goal.returns-in_err-resolved-clause-refused
returns-in_err-resolved-clause-refused g c =
    let accepts = g.V.Verifier.accepts c.args.verifier.now in
    let there : misplaced c.args.self.now.pool (arc_value c.args.tx.now) ≡ None = ap (misplaced c.args.self.now.pool) (sym c.deref.ensures) ∙ sym c.in_default.ensures.refusal in
    let broken = subst (λ (t : Transaction). IsBrokenRule accepts c.args.self.now.pool t c.in_err-resolved.field-0.0) c.deref-2.ensures c.in_err-resolved.ensures.fault in
    passed_on c.from_residual.result _ c.in_err-resolved.field-0.0 c.from_residual.ensures.1 (refused-broken accepts c.args.self.now.pool (arc_value c.args.tx.now) c.in_err-resolved.field-0.0 there broken)

pub take_in-requires-clause-rules : goal.take_in-requires-clause-rules
take_in-requires-clause-rules g c =
    let accepts = g.V.Verifier.accepts c.args.verifier.now in
    let t : Transaction = arc_value c.args.tx.now in
    let pool = c.args.self.now.pool in
    let clear : first_fault accepts (unspent pool) pool.ledger.tick t ≡ None = ap (first_fault accepts (unspent pool) pool.ledger.tick) (sym c.deref-2.ensures) ∙ c.in_ok-resolved.ensures.clear in
    valid_unsigned accepts (unspent pool) pool.ledger.tick t (valid accepts (unspent pool) pool.ledger.tick t clear)

pub returns-clause-ok : goal.returns-clause-ok
returns-clause-ok g c =
    let accepts = g.V.Verifier.accepts c.args.verifier.now in
    let t : Transaction = arc_value c.args.tx.now in
    let pool = c.args.self.now.pool in
    let there : misplaced pool t ≡ None = ap (misplaced pool) (sym c.deref.ensures) ∙ sym c.in_default.ensures.refusal in
    let clear : first_fault accepts (unspent pool) pool.ledger.tick t ≡ None = ap (first_fault accepts (unspent pool) pool.ledger.tick) (sym c.deref-2.ensures) ∙ c.in_ok-resolved.ensures.clear in
    accepted accepts pool t there clear ∙ ap Ok (sym c.in_ok-take_in.ensures.reply)

pub returns-clause-next : goal.returns-clause-next
returns-clause-next g c =
    let accepts = g.V.Verifier.accepts c.args.verifier.now in
    let t : Transaction = arc_value c.args.tx.now in
    let pool = c.args.self.now.pool in
    let there : misplaced pool t ≡ None = ap (misplaced pool) (sym c.deref.ensures) ∙ sym c.in_default.ensures.refusal in
    let clear : first_fault accepts (unspent pool) pool.ledger.tick t ≡ None = ap (first_fault accepts (unspent pool) pool.ledger.tick) (sym c.deref-2.ensures) ∙ c.in_ok-resolved.ensures.clear in
    c.in_ok-take_in.ensures.next ∙ sym (next-accepted accepts pool t _ (accepted accepts pool t there clear))
