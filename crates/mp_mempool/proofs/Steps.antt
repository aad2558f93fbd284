-- A legal history with one more right entry.
use Rattle.std.proofs.Common.{◌≡◌, ℕ, ◌<◌, sym, ap, subst, ◌∙◌}
use Rattle.std.specs.Prelude.{Result, Ok, Err, IfOk}
use Rattle.mp_rules.specs.Verifier.{Accepts}
use Rattle.mp_seqpool.specs.Pool as state
use Rattle.mp_seqpool.specs.Prepared.{Prepared, Prepares, leads_to}
use Rattle.mp_seqpool.specs.SlowPool.{answer, next}
use Rattle.mp_history.specs.Entry.{Entry}
use Rattle.mp_history.specs.Log.{Log, IsLegalLog, entered, state_after}
use Rattle.mp_history.proofs.Logs.{legal-append, pool_of-append}
use Rattle.mp_versions.specs.Version.{Version}
use Rattle.mp_versions.specs.Shown.{IsVersionOf}
use Rattle.mp_mempool.specs.Locked.{Locked, holding}

module _ (accepts : Accepts) where
  -- the state after one more entry
  pub after_entry : (log : Log) (e : Entry) → state_after accepts (entered log e) ≡ next accepts (state_after accepts log) e.command
  after_entry log e = pool_of-append accepts log.opening log.entries e

  -- one more right entry
  pub legal_with : (callers : ℕ) (log : Log) (e : Entry) → IsLegalLog accepts callers log → e.caller < callers → answer accepts (state_after accepts log) e.command ≡ Ok e.reply
      → IsLegalLog accepts callers (entered log e)
  legal_with callers log e legal known reply = record {
    lawful = legal.lawful;
    unchanged = legal.unchanged;
    legal = legal-append accepts callers log.opening log.entries e legal.legal (record { known = known; true_reply = reply });
  }

  -- the version after one more right entry
  pub version_with : (callers : ℕ) (log : Log) (e : Entry) (leads : state.Pool) (v : Version) → IsLegalLog accepts callers log → e.caller < callers
      → answer accepts (state_after accepts log) e.command ≡ Ok e.reply → next accepts (state_after accepts log) e.command ≡ leads → v.pool ≡ leads
      → IsVersionOf accepts callers (entered log e) v
  version_with callers log e leads v legal known reply led is =
      record { legal = legal_with callers log e legal known reply; state = is ∙ sym led ∙ sym (after_entry log e) }

  versions : {E : Type 0} (P Q : Version → Type 0) → ((v : Version) → P v → Q v) → (r : Result Version E) → IfOk r P → IfOk r Q
  versions P Q f (Ok v) p = f v p
  versions P Q f (Err e) p = p

  -- this holds for every version that a step leads to
  pub versions_with : {E : Type 0} (callers : ℕ) (l : Locked) (log : Log) (p : state.Pool) (e : Entry) (q : Prepared) (r : Result Version E)
      → log ≡ l.log → IsLegalLog accepts callers log → p ≡ state_after accepts log → e.caller < callers
      → Prepares accepts (holding accepts l) q.command q → e.command ≡ q.command → e.reply ≡ q.reply
      → IfOk r (λ v. v.pool ≡ leads_to p q) → IfOk r (IsVersionOf accepts callers (entered l.log e))
  versions_with callers l log p e q r same legal state known prepared asked reply all =
      let prepares : Prepares accepts (holding accepts l) e.command q = subst (λ k. Prepares accepts (holding accepts l) k q) (sym asked) prepared in
      let legal_here : IsLegalLog accepts callers l.log = subst (IsLegalLog accepts callers) same legal in
      let told : answer accepts (state_after accepts l.log) e.command ≡ Ok e.reply = prepares.reply ∙ ap Ok (sym reply) in
      let at : p ≡ state_after accepts l.log = state ∙ ap (state_after accepts) same in
      versions (λ v. v.pool ≡ leads_to p q) (IsVersionOf accepts callers (entered l.log e))
      (λ v is. version_with callers l.log e (leads_to (state_after accepts l.log) q) v legal_here known told prepares.leads (is ∙ ap (λ s. leads_to s q) at)) r all
