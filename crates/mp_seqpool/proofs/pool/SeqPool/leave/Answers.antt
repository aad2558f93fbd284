use Rattle.std.proofs.Common.{◌<◌, refl, sym, subst}
use Rattle.mp_tickets.specs.Tickets.{IsRising, among}
use Rattle.mp_seqpool.specs.Pool.{Pool, Holding}
use Rattle.mp_seqpool.specs.SlowPool.{pool_upon}
use Rattle.mp_seqpool.specs.Prepared.{HasApplied, left_by}
use Rattle.mp_seqpool.specs.Inside.Chained.{IsChained}
use Rattle.mp_seqpool.proofs.Left.{rising_ticketed}
use Rattle.mp_seqpool.proofs.Finishing.{left_chained}
use Rattle.mp_seqpool.proofs.Recounting.{recounted}
use Rattle.mp_seqpool.proofs.pool.SeqPool.leave.Goals as goal

pub invariant_of-self : goal.invariant_of-self
invariant_of-self c =
    let told = c.requires.told in
    let reply = c.args.reply.now in
    let overlay = c.args.overlay in
    let pool : Pool = c.args.self.now.pool in
    let rising = subst (λ (h : Holding). IsRising h.pool.items) c.self.view_is (rising_ticketed 0 c.self.inside.items c.self.invariant.rising) in
    let chained = left_chained told.prepared.accepts pool rising told.command reply overlay.ledger (among told.kept pool.items) told.prepared.tells told.prepared.reply in
    recounted c.self.inside _ reply c.take_told.result refl refl
    (subst (λ (h : Holding). HasApplied overlay (left_by reply h.pool.items)) (sym c.self.view_is) c.requires.applied)
    c.take_told.ensures refl refl
    (subst (λ (h : Holding). h.pool.changes < h.pool.limit) (sym c.self.view_is) c.requires.change)
    (subst (λ (h : Holding). IsChained (pool_upon h.pool overlay.ledger (left_by reply h.pool.items))) (sym c.self.view_is) chained)
    c.self.invariant
