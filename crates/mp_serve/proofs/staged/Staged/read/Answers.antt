use Rattle.std.proofs.Common.{◌≡◌, List, sym, subst}
use Rattle.std.specs.Prelude.{IfOk, Result}
use Rattle.mp_tx.specs.Transaction.{Transaction}
use Rattle.mp_tx.specs.declared.fault.TxFault.{TxFault}
use Rattle.mp_tx.proofs.TxReading.{transaction_again}
use Rattle.mp_serve.specs.Staged.{add_txs, add_read}
use Rattle.mp_serve.proofs.staged.Staged.read.Goals as goal

pub returns-in_ok-txs-in-Ok-clause-ok : goal.returns-in_ok-txs-in-Ok-clause-ok
returns-in_ok-txs-in-Ok-clause-ok c =
    let s = c.args.self.now in
    subst (λ (r : Result Transaction TxFault). IfOk c.add_txs.result (λ text. add_read s r ≡ (c.add_txs.new.self, text.items)))
    (sym (transaction_again c.args.bytes.now c.in-Ok.tx c.in-Ok.ensures.found))
    (subst (λ (ts : List Transaction). IfOk c.add_txs.result (λ text. add_txs s ts ≡ (c.add_txs.new.self, text.items))) c.in_ok-txs-in-Ok.ensures c.add_txs.ensures.ok)
