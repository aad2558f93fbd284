use Rattle.std.proofs.Common.{◌≢◌, ◌<◌, ◌≤◌, map, refl, ap, subst, ◌∙◌}
use Rattle.std.specs.Arc.{arc_value}
use Rattle.std.specs.Prelude.{IfSome, AllPairs}
use Rattle.mp_tx.specs.Spelling.{id_of}
use Rattle.mp_tickets.specs.Tickets.{IsRising}
use Rattle.mp_seqpool.specs.Keep.{transactions}
use Rattle.mp_seqpool.specs.Kept.{IsKeptOf}
use Rattle.mp_seqpool.specs.Command.{Remove}
use Rattle.mp_seqpool.specs.Pool.{Holding}
use Rattle.mp_seqpool.specs.declared.refusal.Refusal.TheVariants.{NoMemory}
use Rattle.mp_seqpool.specs.Inside.Chained.{IsChained}
use Rattle.mp_seqpool.specs.Inside.Followed.{TakesFollowed}
use Rattle.mp_seqpool.proofs.Exits.{no_value, passed_on}
use Rattle.mp_seqpool.proofs.Left.{rising_ticketed, ready_removed, full_removed}
use Rattle.mp_seqpool.proofs.TakingFollowed.{ready_followed}
use Rattle.mp_seqpool.proofs.pool.SeqPool.prepare_remove.Goals as goal

pub returns-then-self-clause-refused : goal.returns-then-self-clause-refused
returns-then-self-clause-refused g c =
    full_removed (g.V.Verifier.accepts c.args.verifier.now) c.args.self.now.pool (arc_value c.args.ids.now)
    (subst (λ (h : Holding). h.pool.limit ≤ h.pool.changes) c.self.view_is c.if-self.true)

pub returns-clause-ready : goal.returns-clause-ready
returns-clause-ready g c =
    let accepts = g.V.Verifier.accepts c.args.verifier.now in
    let h = c.args.self.now in
    let kept = c.in_ok-overlay.field-0 in
    let named = c.as_slice.ensures ∙ c.deref.ensures in
    ready_removed accepts h (arc_value c.args.ids.now) kept _
    (subst (λ (h : Holding). h.pool.changes < h.pool.limit) c.self.view_is c.if-self.false)
    (subst (λ (h : Holding). IsRising h.pool.items) c.self.view_is (rising_ticketed 0 c.self.inside.items c.self.invariant.rising))
    (subst (λ ids. IsKeptOf accepts h.pool.ledger h.pool.items ids kept) named
    (subst (λ l. IsKeptOf accepts l h.pool.items c.as_slice.result.now kept) (c.ledger.ensures ∙ ap (λ (h : Holding). h.pool.ledger) c.self.view_is) c.in_ok-overlay.ensures))
    (ap Remove c.in_ok-asked.ensures) refl c.in_ok-effect.ensures.effect

pub returns-in-Some-clause-ready : goal.returns-in-Some-clause-ready
returns-in-Some-clause-ready g c =
    ready_followed (g.V.Verifier.accepts c.args.verifier.now) c.args.self.now (arc_value c.args.ids.now) c.in-Some.step
    (subst (λ (h : Holding). h.pool.changes < h.pool.limit) c.self.view_is c.if-self.false)
    (subst (λ (h : Holding). IsRising h.pool.items) c.self.view_is (rising_ticketed 0 c.self.inside.items c.self.invariant.rising))
    (subst (λ (h : Holding). AllPairs (λ a b. a ≢ b) (map id_of (transactions h.pool.items))) c.self.view_is c.self.invariant.distinct)
    (subst (λ (h : Holding). IsChained h.pool) c.self.view_is c.self.invariant.chained)
    c.requires (subst (λ o. IfSome o (TakesFollowed c.args.self.now.pool (arc_value c.args.ids.now))) c.in-Some.is c.in_ok-step.ensures)

pub returns-in_err-step-clause-ready : goal.returns-in_err-step-clause-ready
returns-in_err-step-clause-ready g c = no_value c.from_residual.result _ c.from_residual.ensures.0

pub returns-in_err-step-clause-refused : goal.returns-in_err-step-clause-refused
returns-in_err-step-clause-refused g c = passed_on c.from_residual.result _ NoMemory c.from_residual.ensures.1 tt

pub returns-in_err-asked-clause-ready : goal.returns-in_err-asked-clause-ready
returns-in_err-asked-clause-ready g c = no_value c.from_residual-in_err-asked.result _ c.from_residual-in_err-asked.ensures.0

pub returns-in_err-asked-clause-refused : goal.returns-in_err-asked-clause-refused
returns-in_err-asked-clause-refused g c = passed_on c.from_residual-in_err-asked.result _ NoMemory c.from_residual-in_err-asked.ensures.1 tt

pub returns-in_err-overlay-clause-ready : goal.returns-in_err-overlay-clause-ready
returns-in_err-overlay-clause-ready g c = no_value c.from_residual-in_err-overlay.result _ c.from_residual-in_err-overlay.ensures.0

pub returns-in_err-overlay-clause-refused : goal.returns-in_err-overlay-clause-refused
returns-in_err-overlay-clause-refused g c = passed_on c.from_residual-in_err-overlay.result _ NoMemory c.from_residual-in_err-overlay.ensures.1 tt

pub returns-in_err-effect-clause-ready : goal.returns-in_err-effect-clause-ready
returns-in_err-effect-clause-ready g c = no_value c.from_residual-in_err-effect.result _ c.from_residual-in_err-effect.ensures.0

pub returns-in_err-effect-clause-refused : goal.returns-in_err-effect-clause-refused
returns-in_err-effect-clause-refused g c = passed_on c.from_residual-in_err-effect.result _ NoMemory c.from_residual-in_err-effect.ensures.1 tt
