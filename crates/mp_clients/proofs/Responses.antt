-- What the pool that a client has seen responds.
use Rattle.std.proofs.Common.{◌≡◌, ℕ, List, refl, sym, ap, ap₂, ◌∙◌}
use Rattle.std.specs.Prelude.{Result, Ok, Err, IfOk}
use Rattle.std.specs.declared.vec.Vec.{Vec}
use Rattle.mp_tx.specs.Transaction.{Transaction}
use Rattle.mp_tx.specs.Ledger.{LedgerState}
use Rattle.mp_rules.specs.Verifier.{Accepts}
use Rattle.mp_signatures.specs.Scheme.{accepted_by}
use Rattle.mp_seqpool.specs.Keep.{keep}
use Rattle.mp_seqpool.specs.Pool.{Pool}
use Rattle.mp_seqpool.specs.declared.refusal.Refusal.{Refusal}
use Rattle.mp_seqpool.specs.declared.command.Reply.{Reply}
use Rattle.mp_seqpool.specs.Command.{Submit}
use Rattle.mp_seqpool.specs.SlowPool.{answer}
use Rattle.mp_history.specs.Log.{Log, state_after}
use Rattle.mp_names.specs.Names.{Names}
use Rattle.mp_lines.specs.declared.query.Query.{Query}
use Rattle.mp_answers.specs.AnswerText.{answer_text}
use Rattle.mp_answers.specs.QueryText.{query_text, for_text, cursor_after}
use Rattle.mp_session.specs.Request.{Try, Read}
use Rattle.mp_serve.specs.ServedPool.{ServedPool}
use Rattle.mp_serve.specs.Texts.{stats_text}
use Rattle.mp_serve.specs.Request.{Plain, Check, Count}
use Rattle.mp_clients.specs.Client.{Client, served_at}
use Rattle.mp_clients.specs.Inside.Steps.{Responds}

module _ (accepts : Accepts) (names : Names) (k : Client) where
  -- the pool that it has seen
  abbrev seen : ServedPool
  seen = served_at accepts k k.pass.front

  pub reads : (query : Query) (log : Log) (text : List ℕ) (cursor : ℕ) (after : Client) → log ≡ k.pass.front
      → text ≡ query_text names k.cursor (state_after accepts log) query → cursor ≡ cursor_after k.cursor (state_after accepts log) query
      → after ≡ record k { cursor = cursor } → Responds accepts names k (Plain (Read query)) text after
  reads query log text cursor after same said moved is = record {
    said = ap₂ (λ x t. (record seen { cursor = x }, t))
        (sym (moved ∙ ap (λ l. cursor_after k.cursor (state_after accepts l) query) same))
        (sym (said ∙ ap (λ l. query_text names k.cursor (state_after accepts l) query) same))
        ∙ ap (λ (a : Client). (served_at accepts a k.pass.front, text)) (sym is);
    pass = ap (λ (a : Client). a.pass) is;
    ledger = ap (λ (a : Client). a.ledger) is;
    signatures = ap (λ (a : Client). a.signatures) is;
  }

  pub tries : (ledger : LedgerState) (log : Log) (p : Pool) (text : List ℕ) (after : Client) → p ≡ state_after accepts log → log ≡ k.pass.front
      → text ≡ for_text names (keep (accepted_by k.signatures) ledger p.items) → after ≡ k → Responds accepts names k (Plain (Try ledger)) text after
  tries ledger log p text after state same said is = record {
    said = ap (λ t. (seen, t)) (sym (said ∙ ap (λ (q : Pool). for_text names (keep (accepted_by k.signatures) ledger q.items)) (state ∙ ap (state_after accepts) same)))
        ∙ ap (λ (a : Client). (served_at accepts a k.pass.front, text)) (sym is);
    pass = ap (λ (a : Client). a.pass) is;
    ledger = ap (λ (a : Client). a.ledger) is;
    signatures = ap (λ (a : Client). a.signatures) is;
  }

  pub checks : (t : Transaction) (log : Log) (p : Pool) (a : Result Reply Refusal) (text : List ℕ) (after : Client) → p ≡ state_after accepts log → log ≡ k.pass.front
      → answer (accepted_by k.signatures) p (Submit t) ≡ a → text ≡ answer_text names a → after ≡ k → Responds accepts names k (Check t) text after
  checks t log p a text after state same answers said is = record {
    said = ap (λ s. (seen, s)) (sym (said ∙ ap (answer_text names) (sym answers ∙ ap (λ q. answer (accepted_by k.signatures) q (Submit t)) (state ∙ ap (state_after accepts) same))))
        ∙ ap (λ (b : Client). (served_at accepts b k.pass.front, text)) (sym is);
    pass = ap (λ (b : Client). b.pass) is;
    ledger = ap (λ (b : Client). b.ledger) is;
    signatures = ap (λ (b : Client). b.signatures) is;
  }

  pub counts : (log : Log) (p : Pool) (text : List ℕ) (after : Client) → p ≡ state_after accepts log → log ≡ k.pass.front
      → text ≡ stats_text p k.refused → after ≡ k → Responds accepts names k Count text after
  counts log p text after state same said is = record {
    said = ap (λ t. (seen, t)) (sym (said ∙ ap (λ q. stats_text q k.refused) (state ∙ ap (state_after accepts) same)))
        ∙ ap (λ (a : Client). (served_at accepts a k.pass.front, text)) (sym is);
    pass = ap (λ (a : Client). a.pass) is;
    ledger = ap (λ (a : Client). a.ledger) is;
    signatures = ap (λ (a : Client). a.signatures) is;
  }

  -- unless an allocation fails
  pub tries_ok : {A E : Type 0} (r : Result (Vec ℕ A) E) (ledger : LedgerState) (log : Log) (p : Pool) (items : List (ℕ × Transaction)) → p ≡ state_after accepts log → log ≡ k.pass.front
      → items ≡ keep (accepted_by k.signatures) ledger p.items → IfOk r (λ t. t.items ≡ for_text names items) → IfOk r (λ t. Responds accepts names k (Plain (Try ledger)) t.items k)
  tries_ok (Ok t) ledger log p items state same kept said = tries ledger log p t.items k state same (said ∙ ap (for_text names) kept) refl
  tries_ok (Err e) ledger log p items state same kept said = tt

  pub checks_ok : {A E : Type 0} (r : Result (Vec ℕ A) E) (t : Transaction) (log : Log) (p : Pool) (a : Result Reply Refusal) → p ≡ state_after accepts log → log ≡ k.pass.front
      → answer (accepted_by k.signatures) p (Submit t) ≡ a → IfOk r (λ x. x.items ≡ answer_text names a) → IfOk r (λ x. Responds accepts names k (Check t) x.items k)
  checks_ok (Ok x) t log p a state same answers said = checks t log p a x.items k state same answers said refl
  checks_ok (Err e) t log p a state same answers said = tt

  pub counts_ok : {A E : Type 0} (r : Result (Vec ℕ A) E) (log : Log) (p : Pool) → p ≡ state_after accepts log → log ≡ k.pass.front
      → IfOk r (λ t. t.items ≡ stats_text p k.refused) → IfOk r (λ t. Responds accepts names k Count t.items k)
  counts_ok (Ok t) log p state same said = counts log p t.items k state same said refl
  counts_ok (Err e) log p state same said = tt
