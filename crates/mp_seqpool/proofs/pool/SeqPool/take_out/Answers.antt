use Rattle.std.proofs.Common.{◌≡◌, ◌<◌, refl, sym, subst}
use Rattle.mp_seqpool.specs.Pool.{Holding}
use Rattle.mp_seqpool.specs.Prepared.{GoInTurn, apart, left_by}
use Rattle.mp_seqpool.proofs.Recounting.{recounted}
use Rattle.mp_seqpool.proofs.TakingFollowed.{has_in_turn}
use Rattle.mp_seqpool.proofs.TakingOut.{lacking_leaves}
use Rattle.mp_seqpool.proofs.pool.SeqPool.take_out.Goals as goal

pub take_in_turn-requires : goal.take_in_turn-requires
take_in_turn-requires c =
    has_in_turn c.self.inside c.args.gone.now (subst (λ (h : Holding). GoInTurn h.pool.ledger h.pool.items c.args.gone.now) (sym c.self.view_is) c.requires.turn) c.self.invariant

pub invariant_of-self : goal.invariant_of-self
invariant_of-self c =
    let gone = c.args.gone.now in
    let reply = c.args.reply.now in
    let left = lacking_leaves c.self.inside c.take_in_turn.new.overlay gone reply c.take_in_turn.ensures
    (subst (λ (h : Holding). apart gone h.pool.items ≡ left_by reply h.pool.items) (sym c.self.view_is) c.requires.told) in
    recounted c.self.inside _ reply c.take_told-bytes.result refl refl left.0 c.take_told-bytes.ensures refl refl
    (subst (λ (h : Holding). h.pool.changes < h.pool.limit) (sym c.self.view_is) c.requires.change)
    left.1 c.self.invariant
