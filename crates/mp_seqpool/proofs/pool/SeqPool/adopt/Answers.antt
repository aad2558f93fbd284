use Rattle.std.proofs.Common.{◌≡◌, ◌<◌, refl, sym, subst, ◌∙◌}
use Rattle.std.specs.Prelude.{All}
use Rattle.mp_tickets.specs.Tickets.{IsRising}
use Rattle.mp_seqpool.specs.ValidatedTx.{ticketed}
use Rattle.mp_seqpool.specs.Pool.{Pool, Holding}
use Rattle.mp_seqpool.specs.SlowPool.{pool_upon}
use Rattle.mp_seqpool.specs.Prepared.{IsLeafAt, apart, left_by}
use Rattle.mp_seqpool.specs.Inside.Chained.{IsChained}
use Rattle.mp_seqpool.specs.Inside.SeqPool.{state}
use Rattle.mp_seqpool.proofs.Left.{rising_ticketed}
use Rattle.mp_seqpool.proofs.Finishing.{left_chained}
use Rattle.mp_seqpool.proofs.Recounting.{recounted}
use Rattle.mp_seqpool.proofs.TakingOut.{has_leaves, lacking_leaves}
use Rattle.mp_seqpool.proofs.Adopting.{lacking_fed}
use Rattle.mp_seqpool.proofs.pool.SeqPool.adopt.Goals as goal

pub take_leaves-requires : goal.take_leaves-requires
take_leaves-requires c =
    has_leaves c.self.inside c.args.gone.now (subst (λ (h : Holding). All (IsLeafAt h.pool) c.args.gone.now) (sym c.self.view_is) c.requires.leaves) c.self.invariant

pub rebase-requires : goal.rebase-requires
rebase-requires c = record { fed = lacking_fed c.self.inside c.take_leaves.new.overlay c.args.gone.now c.take_leaves.ensures }

pub invariant_of-self : goal.invariant_of-self
invariant_of-self c =
    let gone = c.args.gone.now in
    let reply = c.args.reply.now in
    let told = c.requires.told in
    let pool : Pool = c.args.self.now.pool in
    let left = lacking_leaves c.self.inside c.take_leaves.new.overlay gone reply c.take_leaves.ensures
    (subst (λ (h : Holding). apart gone h.pool.items ≡ left_by reply h.pool.items) (sym c.self.view_is) c.requires.left) in
    let rising = subst (λ (h : Holding). IsRising h.pool.items) c.self.view_is (rising_ticketed 0 c.self.inside.items c.self.invariant.rising) in
    let chained = left_chained told.prepared.accepts pool rising told.command reply c.args.ledger (apart gone pool.items) told.prepared.tells told.prepared.reply in
    recounted c.self.inside _ reply c.take_told-bytes.result refl refl (record { applied = c.rebase.ensures.applied ∙ left.0.applied; under = c.rebase.ensures.items ∙ left.0.under }) c.take_told-bytes.ensures refl refl
    (subst (λ (h : Holding). h.pool.changes < h.pool.limit) (sym c.self.view_is) c.requires.change)
    (subst (λ l. IsChained (pool_upon (state c.self.inside) l (left_by reply (ticketed c.self.inside.items)))) (sym c.rebase.ensures.base)
    (subst (λ (h : Holding). IsChained (pool_upon h.pool c.args.ledger (left_by reply h.pool.items))) (sym c.self.view_is) chained))
    c.self.invariant
