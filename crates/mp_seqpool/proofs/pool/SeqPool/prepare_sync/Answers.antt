use Rattle.std.proofs.Common.{◌≢◌, ◌<◌, ◌≤◌, map, ap, subst, ◌∙◌}
use Rattle.std.specs.Prelude.{IfSome, AllPairs}
use Rattle.mp_tx.specs.Spelling.{id_of}
use Rattle.mp_tickets.specs.Tickets.{IsRising}
use Rattle.mp_seqpool.specs.Keep.{transactions}
use Rattle.mp_seqpool.specs.Command.{Sync}
use Rattle.mp_seqpool.specs.Pool.{Holding}
use Rattle.mp_seqpool.specs.declared.refusal.Refusal.TheVariants.{NoMemory}
use Rattle.mp_seqpool.specs.Inside.Chained.{IsChained}
use Rattle.mp_seqpool.specs.Inside.Steps.{AdoptsParted}
use Rattle.mp_seqpool.proofs.Exits.{no_value, passed_on}
use Rattle.mp_seqpool.proofs.Adopting.{ready_adopted}
use Rattle.mp_seqpool.proofs.Left.{rising_ticketed, ready_synced, full_synced}
use Rattle.mp_seqpool.proofs.pool.SeqPool.prepare_sync.Goals as goal

pub returns-then-self-clause-refused : goal.returns-then-self-clause-refused
returns-then-self-clause-refused g c =
    full_synced (g.V.Verifier.accepts c.args.verifier.now) c.args.self.now.pool c.args.ledger.now
    (subst (λ (h : Holding). h.pool.limit ≤ h.pool.changes) c.self.view_is c.if-self.true)

pub returns-clause-ready : goal.returns-clause-ready
returns-clause-ready g c =
    let accepts = g.V.Verifier.accepts c.args.verifier.now in
    let h = c.args.self.now in
    let done = c.in_ok-sync_step.ensures in
    ready_synced accepts h c.args.ledger.now c.in_ok-left.left c.in_ok-sync_step.field-0
    (subst (λ (h : Holding). h.pool.changes < h.pool.limit) c.self.view_is c.if-self.false)
    (subst (λ (h : Holding). IsRising h.pool.items) c.self.view_is (rising_ticketed 0 c.self.inside.items c.self.invariant.rising))
    c.in_ok-left.ensures
    (done.command ∙ ap Sync c.in_ok-adopted.ensures) done.reply done.effect

pub returns-in_err-adopted-clause-ready : goal.returns-in_err-adopted-clause-ready
returns-in_err-adopted-clause-ready g c = no_value c.from_residual-in_err-adopted.result _ c.from_residual-in_err-adopted.ensures.0

pub returns-in_err-adopted-clause-refused : goal.returns-in_err-adopted-clause-refused
returns-in_err-adopted-clause-refused g c = passed_on c.from_residual-in_err-adopted.result _ NoMemory c.from_residual-in_err-adopted.ensures.1 tt

pub returns-in_err-left-clause-ready : goal.returns-in_err-left-clause-ready
returns-in_err-left-clause-ready g c = no_value c.from_residual-in_err-left.result _ c.from_residual-in_err-left.ensures.0

pub returns-in_err-left-clause-refused : goal.returns-in_err-left-clause-refused
returns-in_err-left-clause-refused g c = passed_on c.from_residual-in_err-left.result _ NoMemory c.from_residual-in_err-left.ensures.1 tt

pub returns-in_err-sync_step-clause-ready : goal.returns-in_err-sync_step-clause-ready
returns-in_err-sync_step-clause-ready g c = no_value c.from_residual-in_err-sync_step.result _ c.from_residual-in_err-sync_step.ensures.0

pub returns-in_err-sync_step-clause-refused : goal.returns-in_err-sync_step-clause-refused
returns-in_err-sync_step-clause-refused g c = passed_on c.from_residual-in_err-sync_step.result _ NoMemory c.from_residual-in_err-sync_step.ensures.1 tt

pub returns-in-Some-clause-ready : goal.returns-in-Some-clause-ready
returns-in-Some-clause-ready g c =
    ready_adopted (g.V.Verifier.accepts c.args.verifier.now) c.args.self.now c.args.ledger.now c.in-Some.step
    (subst (λ (h : Holding). h.pool.changes < h.pool.limit) c.self.view_is c.if-self.false)
    (subst (λ (h : Holding). IsRising h.pool.items) c.self.view_is (rising_ticketed 0 c.self.inside.items c.self.invariant.rising))
    (subst (λ (h : Holding). AllPairs (λ a b. a ≢ b) (map id_of (transactions h.pool.items))) c.self.view_is c.self.invariant.distinct)
    (subst (λ (h : Holding). IsChained h.pool) c.self.view_is c.self.invariant.chained)
    c.requires (subst (λ o. IfSome o (AdoptsParted c.args.self.now.pool c.args.ledger.now)) c.in-Some.is c.in_ok-step.ensures)

pub returns-in_err-step-clause-ready : goal.returns-in_err-step-clause-ready
returns-in_err-step-clause-ready g c = no_value c.from_residual.result _ c.from_residual.ensures.0

pub returns-in_err-step-clause-refused : goal.returns-in_err-step-clause-refused
returns-in_err-step-clause-refused g c = passed_on c.from_residual.result _ NoMemory c.from_residual.ensures.1 tt
