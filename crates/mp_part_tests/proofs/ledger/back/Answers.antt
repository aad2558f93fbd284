use Rattle.std.proofs.Common.{[], ◌∷◌, ◌++◌, sym, subst}
use Rattle.mp_tx.specs.Ledger.{LedgerState, refs, ledger_after}
use Rattle.mp_tx.specs.Undo.{DifferAt}
use Rattle.mp_tx.proofs.Undoing.{differ-after}
use Rattle.mp_part_tests.proofs.ledger.back.Goals as goal

pub between-requires : goal.between-requires
between-requires c =
    let before = c.args.before.now in
    let spent = c.reference.result ∷ [] in
    let made = c.new.result.items in
    subst (λ (l : LedgerState). DifferAt spent before l) (sym c.in-Ok.ensures.ok)
    (subst (λ es. DifferAt (spent ++ refs es) before (ledger_after before 7 2 spent made)) c.new.ensures.items (differ-after before 7 2 spent made))
