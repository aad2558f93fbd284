use Rattle.std.proofs.Common.{◌≡◌, subst}
use Rattle.std.specs.Prelude.{IfSome, IfNone}
use Rattle.mp_utxo.specs.Overlay.{IsUnder, HasNone}
use Rattle.mp_seqpool.specs.ValidatedTx.{ticketed}
use Rattle.mp_seqpool.specs.Pool.{Holding}
use Rattle.mp_seqpool.specs.SlowPool.{ticket_of}
use Rattle.mp_seqpool.proofs.Distinct.{found_is}
use Rattle.mp_seqpool.proofs.pool.SeqPool.ticket_of.Goals as goal

pub returns : goal.returns
returns c =
    let id = c.args.id.now in
    let law = c.self.invariant in
    subst (λ (h : Holding). c.ticket_of.result ≡ ticket_of id h.pool.items) c.self.view_is
    (found_is id (ticketed c.self.inside.items) c.ticket_of.result law.distinct
    (subst (λ items. IfSome c.ticket_of.result (IsUnder items id)) law.under c.ticket_of.ensures.some)
    (subst (λ items. IfNone c.ticket_of.result (HasNone items id)) law.under c.ticket_of.ensures.none))
