use Rattle.std.proofs.Common.{sym, subst}
use Rattle.std.specs.Prelude.{IfOk}
use Rattle.mp_seqpool.specs.Kept.{IsKeptOf}
use Rattle.mp_seqpool.specs.Pool.{Holding}
use Rattle.mp_seqpool.specs.SlowPool.{AreSigned}
use Rattle.mp_seqpool.proofs.Left.{vouched}
use Rattle.mp_seqpool.proofs.pool.SeqPool.revalidate.Goals as goal

pub revalidate-requires : goal.revalidate-requires
revalidate-requires g c =
    let accepts = g.V.Verifier.accepts c.args.verifier.now in
    vouched accepts c.self.inside.items (subst (λ (h : Holding). AreSigned accepts h.pool) (sym c.self.view_is) c.requires) c.self.invariant.valid

pub returns : goal.returns
returns g c =
    let accepts = g.V.Verifier.accepts c.args.verifier.now in
    subst (λ (h : Holding). IfOk c.revalidate.result (IsKeptOf accepts c.args.ledger.now h.pool.items c.args.without.now)) c.self.view_is c.revalidate.ensures
