use Rattle.std.proofs.Common.{◌≡◌, ℕ, List, [], ap, ap₂, ◌∙◌, refl}
use Rattle.mp_tx.specs.Transaction.{Transaction}
use Rattle.mp_tx.proofs.TxReading.{transaction_again}
use Rattle.mp_names.specs.declared.names.Binding.TheVariants.{Made}
use Rattle.mp_names.specs.declared.payment.Payment.{Payment}
use Rattle.mp_names.specs.DeclaredTx.{DeclaredTx}
use Rattle.mp_names.specs.Names.{Names, with_binding}
use Rattle.mp_clients.proofs.Alone.{told_read}
use Rattle.mp_clients.proofs.conversation.Conversation.read.Goals as goal

pub returns-in-Ok-clause-ok : goal.returns-in-Ok-clause-ok
returns-in-Ok-clause-ok g c =
    let t : Transaction = c.in-Ok.tx in
    let bound : DeclaredTx → Names = λ d. with_binding c.args.self.now.names (record { name = c.args.name; binding = Made d }) in
    let declared : c.of-declared.result ≡ record { tx = t; payments = [] } =
    c.of-declared.ensures ∙ ap (λ (x : Transaction). record { tx = x; payments = c.new-in-Ok.result.items }) c.in_ok-new-in-Ok.ensures.ok
    ∙ ap (λ (p : List Payment). record { tx = t; payments = p }) c.new-in-Ok.ensures.items in
    told_read g.N.PoolName.accepts c.args.self.now c.args.name _ t c.declare.new.self _ _ (transaction_again c.args.bytes.now t c.in-Ok.ensures.found)
    (c.in_ok-declare-in-Ok.ensures.ok ∙ ap bound declared) c.in_ok-text-in-Ok.ensures refl
