use Rattle.std.proofs.Common.{◌≡◌, fold, subst}
use Rattle.std.specs.Prelude.{OnOk}
use Rattle.mp_tx.specs.Inside.Base.{with_change}
use Rattle.mp_tx.proofs.ledger.base.put_all.Goals as goal

pub returns-clause-put : goal.returns-clause-put
returns-clause-put c = subst (λ es. OnOk c.put_changes.result (c.put_changes.new.base.entries ≡ fold with_change es c.args.changes.entries)) c.in_ok-put_all_kept.ensures.put c.put_changes.ensures.put
