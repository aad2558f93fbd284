use Rattle.std.proofs.Common.{refl, sym, take}
use Rattle.mp_seqpool.proofs.Exits.{not_ok}
use Rattle.mp_history.proofs.Logs.{signed-of, legal-more}
use Rattle.mp_history.proofs.FirstFaults.{fault_told, illegal_told}
use Rattle.mp_history.proofs.history.replay_all.Goals as goal

pub loop-place-init : goal.loop-place-init
loop-place-init g c = (tt, refl)

pub replay-requires : goal.replay-requires
replay-requires g c =
    signed-of (g.V.Verifier.accepts c.args.verifier.now) c.args.pool.now.pool c.loop-place.pool.pool (take c.loop-place.place c.args.entries.now) c.requires c.loop-place.invariant.1

pub loop-place-preserved : goal.loop-place-preserved
loop-place-preserved g c =
    legal-more (g.V.Verifier.accepts c.args.verifier.now) c.args.callers c.args.pool.now.pool c.loop-place.pool.pool c.replay.new.pool.pool c.args.entries.now c.loop-place.place c.index-entries-place.result c.loop-place-test.true (sym c.index-entries-place.is) c.loop-place.invariant c.in_ok-replay.ensures.right c.in_ok-replay.ensures.next

pub returns-in_err-replay-clause-legal : goal.returns-in_err-replay-clause-legal
returns-in_err-replay-clause-legal g c = not_ok c.from_residual.result _ c.from_residual.ensures.0

pub returns-in_err-replay-clause-pool : goal.returns-in_err-replay-clause-pool
returns-in_err-replay-clause-pool g c = not_ok c.from_residual.result _ c.from_residual.ensures.0

pub returns-in_err-replay-clause-fault : goal.returns-in_err-replay-clause-fault
returns-in_err-replay-clause-fault g c =
    fault_told (g.V.Verifier.accepts c.args.verifier.now) c.args.callers c.args.pool.now.pool c.loop-place.pool.pool c.args.entries.now c.loop-place.place c.index-entries-place.result c.in_err-replay.field-0.0
    c.loop-place-test.true c.index-entries-place.is c.loop-place.invariant c.in_err-replay.ensures.fault c.from_residual.result c.from_residual.ensures.1

pub returns-in_err-replay-clause-illegal : goal.returns-in_err-replay-clause-illegal
returns-in_err-replay-clause-illegal g c =
    illegal_told (g.V.Verifier.accepts c.args.verifier.now) c.args.callers c.args.pool.now.pool c.loop-place.pool.pool c.args.entries.now c.loop-place.place c.index-entries-place.result c.in_err-replay.field-0.0
    c.loop-place-test.true c.index-entries-place.is c.loop-place.invariant c.in_err-replay.ensures.fault c.from_residual.result c.from_residual.ensures.1
