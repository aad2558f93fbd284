use Rattle.std.proofs.Common.{◌≡◌, sym, subst}
use Rattle.std.specs.Prelude.{IfOk, IfErr, Result}
use Rattle.mp_tx.specs.Transaction.{Transaction}
use Rattle.mp_tx.specs.declared.fault.TxFault.{TxFault}
use Rattle.mp_tx.proofs.TxReading.{transaction_again}
use Rattle.mp_serve.specs.Inside.Answer.{text_of}
use Rattle.mp_clients.specs.Answers.{IsGiven}
use Rattle.mp_clients.specs.Inside.Steps.{IsStopped}
use Rattle.mp_clients.proofs.conversation.Conversation.give.Goals as goal

pub returns-in-Ok : goal.returns-in-Ok
returns-in-Ok g c =
    let accepts = g.N.PoolName.accepts in
    let callers = g.N.PoolName.callers in
    let again = sym (transaction_again c.args.bytes.now c.in-Ok.tx c.in-Ok.ensures.found) in
    record {
      ok = subst (λ (r : Result Transaction TxFault). IfOk c.give_tx.result (λ a. IsGiven accepts callers c.args.self.now r (text_of a) c.give_tx.new.self)) again c.give_tx.ensures.ok;
      err = subst (λ (r : Result Transaction TxFault). IfErr c.give_tx.result (IsStopped accepts callers (IsGiven accepts callers c.args.self.now r) c.args.self.now c.give_tx.new.self)) again c.give_tx.ensures.err;
    }
