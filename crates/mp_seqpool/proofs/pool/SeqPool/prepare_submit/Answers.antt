use Rattle.std.proofs.Common.{◌≡◌, sym, ap, subst, ◌∙◌}
use Rattle.std.specs.Arc.{arc_value}
use Rattle.std.specs.Prelude.{None}
use Rattle.mp_tx.specs.Transaction.{Transaction}
use Rattle.mp_rules.specs.FirstFault.{first_fault}
use Rattle.mp_seqpool.specs.Inside.Place.{misplaced}
use Rattle.mp_seqpool.specs.Inside.Rules.{IsBrokenRule}
use Rattle.mp_seqpool.specs.Command.{Submit}
use Rattle.mp_seqpool.specs.SlowPool.{IsRefused, unspent}
use Rattle.mp_seqpool.specs.declared.refusal.Refusal.TheVariants.{NoMemory}
use Rattle.mp_seqpool.proofs.Exits.{no_value, passed_on}
use Rattle.mp_seqpool.proofs.Submits.{refused-misplaced, refused-broken, ready}
use Rattle.mp_seqpool.proofs.pool.SeqPool.prepare_submit.Goals as goal

pub returns-in-Some-clause-refused : goal.returns-in-Some-clause-refused
returns-in-Some-clause-refused g c =
    let accepts = g.V.Verifier.accepts c.args.verifier.now in
    subst (λ (t : Transaction). IsRefused accepts c.args.self.now.pool (Submit t) c.in-Some.refusal) c.deref.ensures
    (refused-misplaced accepts c.args.self.now.pool c.deref.result.now c.in-Some.refusal (sym c.in-Some.ensures.refusal))

pub returns-in_err-resolved-clause-refused : goal.returns-in_err-resolved-clause-refused
returns-in_err-resolved-clause-refused g c =
    let accepts = g.V.Verifier.accepts c.args.verifier.now in
    let there : misplaced c.args.self.now.pool (arc_value c.args.tx.now) ≡ None = ap (misplaced c.args.self.now.pool) (sym c.deref.ensures) ∙ sym c.in_default.ensures.refusal in
    let broken = subst (λ (t : Transaction). IsBrokenRule accepts c.args.self.now.pool t c.in_err-resolved.field-0.0) c.deref-2.ensures c.in_err-resolved.ensures.fault in
    passed_on c.from_residual.result _ c.in_err-resolved.field-0.0 c.from_residual.ensures.1 (refused-broken accepts c.args.self.now.pool (arc_value c.args.tx.now) c.in_err-resolved.field-0.0 there broken)

pub returns-clause-ready : goal.returns-clause-ready
returns-clause-ready g c =
    let accepts = g.V.Verifier.accepts c.args.verifier.now in
    let t : Transaction = arc_value c.args.tx.now in
    let pool = c.args.self.now.pool in
    let there : misplaced pool t ≡ None = ap (misplaced pool) (sym c.deref.ensures) ∙ sym c.in_default.ensures.refusal in
    ready accepts pool c.prepare_append.new.self t c.in_ok-resolved.resolved c.in_ok-prepare_append.field-0 c.in_ok-prepare_append.ensures.same there
    (ap (first_fault accepts (unspent pool) pool.ledger.tick) (sym c.deref-2.ensures) ∙ c.in_ok-resolved.ensures.clear)
    c.in_ok-prepare_append.ensures.command c.in_ok-prepare_append.ensures.reply c.in_ok-prepare_append.ensures.effect c.in_ok-prepare_append.ensures.room

pub returns-in_err-resolved-clause-ready : goal.returns-in_err-resolved-clause-ready
returns-in_err-resolved-clause-ready g c = no_value c.from_residual.result _ c.from_residual.ensures.0

pub returns-in_err-prepare_append-clause-ready : goal.returns-in_err-prepare_append-clause-ready
returns-in_err-prepare_append-clause-ready g c = no_value c.from_residual-in_err-prepare_append.result _ c.from_residual-in_err-prepare_append.ensures.0

pub returns-in_err-prepare_append-clause-refused : goal.returns-in_err-prepare_append-clause-refused
returns-in_err-prepare_append-clause-refused g c = passed_on c.from_residual-in_err-prepare_append.result _ NoMemory c.from_residual-in_err-prepare_append.ensures.1 tt
