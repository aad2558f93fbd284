-- Which items stay on a ledger state.
use Rattle.std.specs.Prelude.{◌≡◌, ℕ, List}
use Rattle.mp_tx.specs.Transaction.{Transaction}
use Rattle.mp_tx.specs.Ledger.{LedgerState}
use Rattle.mp_rules.specs.Verifier.{Accepts}
use Rattle.mp_seqpool.specs.declared.kept.Kept.{Kept}
use Rattle.mp_seqpool.specs.Keep.{transactions, tickets, named, unnamed, keep, dropped}

-- those with these ids are taken out; of the others, the valid ones are kept
pub record IsKeptOf (accepts : Accepts) (ledger : LedgerState) (items : List (ℕ × Transaction)) (ids : List (List ℕ)) (k : Kept)
    : Type 0 where
  pub base : k.overlay.ledger ≡ ledger
  pub salt : k.overlay.salt ≡ ledger.salt
  pub applied : k.overlay.applied ≡ transactions (keep accepts ledger (unnamed ids items))
  pub under : k.overlay.items ≡ keep accepts ledger (unnamed ids items)
  pub kept : k.kept ≡ tickets (keep accepts ledger (unnamed ids items))
  pub named : k.named ≡ tickets (named ids items)
  pub dropped : k.dropped ≡ dropped accepts ledger (unnamed ids items)
