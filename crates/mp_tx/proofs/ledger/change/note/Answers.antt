use Rattle.std.proofs.Common.{ap, ◌∙◌}
use Rattle.mp_tx.specs.Ledger.{Utxo}
use Rattle.mp_tx.specs.Inside.Changes.{changed}
use Rattle.mp_tx.proofs.Changed.{changed-insert_entry}
use Rattle.mp_tx.proofs.ledger.change.note.Goals as goal

pub returns-clause-changed : goal.returns-clause-changed
returns-clause-changed c = λ (u : Utxo). ap (changed u) c.in_ok-insert.ensures.entries ∙ changed-insert_entry u c.args.changes.now.entries c.args.reference c.args.change
