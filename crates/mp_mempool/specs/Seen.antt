-- What a caller has seen after a call.
use Rattle.std.specs.Prelude.{◌≡◌, ℕ, List, ◌++◌, length}
use Rattle.mp_tx.specs.Ledger.{LedgerState}
use Rattle.mp_rules.specs.Verifier.{Accepts}
use Rattle.mp_seqpool.specs.Keep.{keep, bytes_of}
use Rattle.mp_history.specs.Entry.{Entry}
use Rattle.mp_history.specs.Log.{Log, IsLegalLog, state_after}
use Rattle.mp_mempool.specs.declared.read.snapshot_for.SnapshotFor.{SnapshotFor}
use Rattle.mp_mempool.specs.Pass.{Pass}

-- the history with more entries
abbrev pub continued : Log → List Entry → Log
continued log es = record log { entries = log.entries ++ es }

-- the caller has seen these entries too
abbrev pub seen : Pass → List Entry → Pass
seen p others = record p { front = continued p.front others }

-- The verifier decides which signatures are good.
module _ (accepts : Accepts) (callers : ℕ) where
  -- What a caller has seen after a call that changes nothing.
  pub record IsSeen (before after : Pass) : Type 0 where
    -- the entries committed since
    pub more : List Entry
    pub pass : after ≡ seen before more
    pub legal : IsLegalLog accepts callers after.front

-- What stays valid on another ledger state, for the state after a history.
pub record IsSnapshotFor (accepts : Accepts) (log : Log) (ledger : LedgerState) (s : SnapshotFor) : Type 0 where
  pub items : s.items ≡ keep accepts ledger (state_after accepts log).items
  pub bytes : s.bytes ≡ bytes_of s.items
  pub number : s.number ≡ length log.entries
