use Rattle.std.proofs.Common.{◌≡◌, ℕ, List, sym, ap, subst, ◌∙◌}
use Rattle.std.specs.Arc.{arc_value}
use Rattle.mp_tx.specs.Transaction.{Transaction}
use Rattle.mp_tx.specs.Ledger.{LedgerState}
use Rattle.mp_rules.specs.Validity.{IsValid}
use Rattle.mp_seqpool.specs.ValidatedTx.{ValidatedTx, ticketed}
use Rattle.mp_seqpool.specs.Inside.Chained.{all_accepted}
use Rattle.mp_seqpool.specs.Inside.SeqPool.{state}
use Rattle.mp_seqpool.specs.Pool.{Holding}
use Rattle.mp_seqpool.specs.SlowPool.{unspent}
use Rattle.mp_seqpool.proofs.pool.SeqPool.take_in.Goals as goal

pub append-requires-clause-valid : goal.append-requires-clause-valid
append-requires-clause-valid c =
    let t : Transaction = arc_value c.args.tx.now in
    let inside : IsValid all_accepted (unspent (state c.self.inside)) c.self.inside.overlay.ledger.tick t =
    subst (λ (h : Holding). IsValid all_accepted (unspent h.pool) h.pool.ledger.tick t) (sym c.self.view_is) c.requires.rules in
    let there : IsValid all_accepted (unspent (record (state c.self.inside) { items = ticketed c.reserve.new.self })) c.self.inside.overlay.ledger.tick t =
    subst (λ (is : List (ℕ × ValidatedTx)). IsValid all_accepted (unspent (record (state c.self.inside) { items = ticketed is })) c.self.inside.overlay.ledger.tick t) (sym c.reserve.ensures) inside in
    let upon : IsValid all_accepted (unspent (record (state c.self.inside) { ledger = c.reserve_for.new.self.ledger; items = ticketed c.reserve.new.self })) c.reserve_for.new.self.ledger.tick t =
    subst (λ (l : LedgerState). IsValid all_accepted (unspent (record (state c.self.inside) { ledger = l; items = ticketed c.reserve.new.self })) l.tick t) (sym c.reserve_for.ensures.same.base) there in
    let same : c.in-Ok.node.tx ≡ t = ap (λ (i : ValidatedTx). i.tx) c.in-Ok.ensures.ok ∙ c.in_ok-try_clone.ensures in
    subst (λ (s : Transaction). IsValid all_accepted (unspent (record (state c.self.inside) { ledger = c.reserve_for.new.self.ledger; items = ticketed c.reserve.new.self })) c.reserve_for.new.self.ledger.tick s) (sym same) upon
