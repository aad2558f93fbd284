-- What reads guarantee.
use Rattle.std.proofs.Common.{◌≡◌, ℕ, [], Result, Ok, Err, IfOk, refl, sym, ap, ap₂, subst, ◌∙◌, append-nil}
use Rattle.mp_tx.specs.Ledger.{LedgerState}
use Rattle.mp_rules.specs.Verifier.{Accepts}
use Rattle.mp_seqpool.specs.Keep.{keep, bytes_of}
use Rattle.mp_history.specs.Log.{Log, Begins, IsLegalLog, state_after}
use Rattle.mp_versions.specs.Version.{Version}
use Rattle.mp_versions.proofs.Histories.{number_of}
use Rattle.mp_mempool.specs.declared.read.snapshot_for.SnapshotFor.{SnapshotFor}
use Rattle.mp_mempool.specs.Pass.{Pass}
use Rattle.mp_mempool.specs.Seen.{IsSeen, IsSnapshotFor, continued}

-- the history is what was seen, and then more
pub goes_on : (front log : Log) (b : Begins front log) → log ≡ continued front b.entries.0
goes_on front log b = sym (ap₂ (λ o es. record { opening = o; entries = es }) b.opening b.entries.1)

module _ (accepts : Accepts) where
  -- what a read guarantees
  pub is_seen : (callers : ℕ) (before after : Pass) (log : Log) → Begins before.front log → IsLegalLog accepts callers log
      → after ≡ record before { front = log } → IsSeen accepts callers before after
  is_seen callers before after log b legal is = record {
    more = b.entries.0;
    pass = is ∙ ap (λ l. record before { front = l }) (goes_on before.front log b);
    legal = subst (IsLegalLog accepts callers) (sym (ap (λ p. p.front) is)) legal;
  }

  -- what was seen stays where it was
  pub is_seen_anew : (callers : ℕ) (before after : Pass) → Begins before.front after.front → IsLegalLog accepts callers after.front
      → after ≡ record before { front = after.front } → IsSeen accepts callers before after
  is_seen_anew callers before after b legal same = is_seen callers before after after.front b legal same

  -- nothing more was seen
  pub is_seen_still : (callers : ℕ) (pass : Pass) → IsLegalLog accepts callers pass.front → IsSeen accepts callers pass pass
  is_seen_still callers pass legal = is_seen callers pass pass pass.front (record { opening = refl; entries = ([], append-nil pass.front.entries) }) legal refl

-- what stays valid on another ledger state, for a version
pub is_snapshot_for : {E : Type 0} (a accepts : Accepts) (callers : ℕ) (log : Log) (v : Version) (ledger : LedgerState) (r : Result SnapshotFor E) → a ≡ accepts → IsLegalLog accepts callers log
    → v.pool ≡ state_after accepts log
    → IfOk r (λ s. s.items ≡ keep a ledger v.pool.items) → IfOk r (λ s. s.bytes ≡ bytes_of s.items) → IfOk r (λ s. s.number ≡ v.pool.changes) → IfOk r (IsSnapshotFor accepts log ledger)
is_snapshot_for a accepts callers log v ledger (Ok s) same legal state items bytes number = record {
  items = items ∙ ap₂ (λ b p. keep b ledger p.items) same state;
  bytes = bytes;
  number = number ∙ ap (λ p. p.changes) state ∙ number_of accepts callers log legal;
}
is_snapshot_for a accepts callers log v ledger (Err e) same legal state items bytes number = tt
