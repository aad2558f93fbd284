use Rattle.std.proofs.Common.{◌≡◌, ℕ, List, [], sym, ap, ◌∙◌}
use Rattle.std.specs.Prelude.{Ok}
use Rattle.mp_tx.specs.Transaction.{Transaction}
use Rattle.mp_tx.proofs.TxReading.{transaction_again}
use Rattle.mp_names.specs.declared.names.Binding.TheVariants.{Made}
use Rattle.mp_names.specs.declared.payment.Payment.{Payment}
use Rattle.mp_names.specs.DeclaredTx.{DeclaredTx}
use Rattle.mp_names.specs.Names.{Names, with_binding}
use Rattle.mp_serve.specs.Texts.{bytes_text}
use Rattle.mp_serve.specs.declared.conversation.Conversation.{Conversation}
use Rattle.mp_serve.specs.Talk.{read, with_names}
use Rattle.mp_serve.proofs.conversation.Conversation.read.Goals as goal

pub returns-in-Ok-clause-ok : goal.returns-in-Ok-clause-ok
returns-in-Ok-clause-ok c =
    let before : Conversation = c.args.self.now in
    let t : Transaction = c.in-Ok.tx in
    let bound : DeclaredTx → Names = λ d. with_binding before.session.names (record { name = c.args.name; binding = Made d }) in
    let declared : c.of-declared.result ≡ record { tx = t; payments = [] } =
    c.of-declared.ensures ∙ ap (λ (x : Transaction). record { tx = x; payments = c.new-in-Ok.result.items }) c.in_ok-new-in-Ok.ensures.ok
    ∙ ap (λ (p : List Payment). record { tx = t; payments = p }) c.new-in-Ok.ensures.items in
    ap (read before c.args.name) (transaction_again c.args.bytes.now t c.in-Ok.ensures.found)
    ∙ ap (λ (n : Names). (with_names before n, bytes_text (Ok t))) (sym (c.in_ok-declare-in-Ok.ensures.ok ∙ ap bound declared))
    ∙ ap (λ (l : List ℕ). (with_names before c.declare.new.self, l)) (sym c.in_ok-text-in-Ok.ensures)
