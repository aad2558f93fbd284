use Rattle.std.proofs.Common.{ℕ, sym, subst}
use Rattle.std.specs.Prelude.{IfNone}
use Rattle.mp_tx.specs.Ledger.{AreFree, IsFirstTaken}
use Rattle.mp_tx.proofs.Undoing.{none_taken}
use Rattle.mp_session.proofs.beginning.add_all.Goals as goal

pub unreachable-requires : goal.unreachable-requires
unreachable-requires c =
    let taken = subst (λ o. IfNone o ((place : ℕ) × IsFirstTaken c.args.ledger.now.utxo c.in_ok-made.made.items place)) c.in-None.is c.in_ok-ledger.ensures.taken in
    none_taken c.args.ledger.now.utxo c.in_ok-made.made.items taken.0 (subst (AreFree c.args.ledger.now.utxo) (sym c.in_ok-made.ensures) c.requires.free) taken.1
