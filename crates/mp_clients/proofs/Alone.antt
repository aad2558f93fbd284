-- Answers with the pool that a conversation has seen.
use Rattle.std.proofs.Common.{◌≡◌, ℕ, List, sym, ap, ap₂, ◌∙◌}
use Rattle.std.specs.Prelude.{[], Some, Result, Ok}
use Rattle.mp_tx.specs.Transaction.{Transaction}
use Rattle.mp_tx.specs.declared.fault.TxFault.{TxFault}
use Rattle.mp_rules.specs.Verifier.{Accepts}
use Rattle.mp_names.specs.Names.{Names}
use Rattle.mp_serve.specs.declared.conversation.Conversation as alone
use Rattle.mp_serve.specs.Texts.{bytes_text}
use Rattle.mp_serve.specs.Talk.{read, with_read, with_names}
use Rattle.mp_clients.specs.declared.conversation.Conversation.{Conversation}
use Rattle.mp_clients.specs.Alone.{alone_at}
use Rattle.mp_clients.specs.Inside.Steps.{IsToldAlone}

module _ {N : Type 0} (accepts : Accepts) (c : Conversation N) where
  abbrev now : alone.Conversation
  now = alone_at accepts c c.client.pass.front

  -- the text is known, and nothing changes
  pub told_text : (wanted text : List ℕ) (u : Conversation N) → text ≡ wanted → u ≡ c → IsToldAlone accepts c (λ x. Some (x, wanted)) text u
  told_text wanted text u is same = record {
    said = ap₂ (λ (v : Conversation N) t. Some (alone_at accepts v c.client.pass.front, t)) (sym same) (sym is);
    pass = ap (λ (v : Conversation N). v.client.pass) same;
    ledger = ap (λ (v : Conversation N). v.client.ledger) same;
  }

  -- a transaction was read
  pub told_read : (name : List ℕ) (found : Result Transaction TxFault) (t : Transaction) (names : Names) (text : List ℕ) (u : Conversation N) → found ≡ Ok t
      → names ≡ with_read c.names name (Ok t) → text ≡ bytes_text (Ok t) → u ≡ record c { names = names } → IsToldAlone accepts c (λ x. Some (read x name found)) text u
  told_read name found t names text u is bound said same = record {
    said = ap (λ (f : Result Transaction TxFault). Some (read now name f)) is
        ∙ ap₂ (λ (n : Names) y. Some (with_names now n, y)) (sym bound) (sym said)
        ∙ ap (λ (v : Conversation N). Some (alone_at accepts v c.client.pass.front, text)) (sym same);
    pass = ap (λ (v : Conversation N). v.client.pass) same;
    ledger = ap (λ (v : Conversation N). v.client.ledger) same;
  }
