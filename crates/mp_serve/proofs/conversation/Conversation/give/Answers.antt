use Rattle.std.proofs.Common.{◌≡◌, sym, subst}
use Rattle.std.specs.Prelude.{IfOk, Result}
use Rattle.mp_tx.specs.Transaction.{Transaction}
use Rattle.mp_tx.specs.declared.fault.TxFault.{TxFault}
use Rattle.mp_tx.proofs.TxReading.{transaction_again}
use Rattle.mp_serve.specs.Talk.{give}
use Rattle.mp_serve.proofs.conversation.Conversation.give.Goals as goal

pub returns-in-Ok-clause-ok : goal.returns-in-Ok-clause-ok
returns-in-Ok-clause-ok c =
    subst (λ (r : Result Transaction TxFault). IfOk c.give_tx.result (λ text. give c.args.self.now r ≡ (c.give_tx.new.self, text.items)))
    (sym (transaction_again c.args.bytes.now c.in-Ok.tx c.in-Ok.ensures.found))
    c.give_tx.ensures.ok
