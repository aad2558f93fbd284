-- What a conversation has of the pool that it shares with others.
use Rattle.std.specs.Prelude.{ℕ, List, []}
use Rattle.mp_tx.specs.Ledger.{LedgerState}
use Rattle.mp_rules.specs.Verifier.{Accepts}
use Rattle.mp_signatures.specs.declared.scheme.Scheme.{Scheme}
use Rattle.mp_history.specs.Log.{Log, state_after}
use Rattle.mp_mempool.specs.Pass.{Pass}
use Rattle.mp_serve.specs.declared.refused.Counts.{Counts}
use Rattle.mp_serve.specs.Refused.{none_counted}
use Rattle.mp_serve.specs.ServedPool.{ServedPool}

pub record Client : Type 0 where
  -- who it is, and what it has seen of the pool
  pub pass : Pass
  -- the signatures that the pool accepts
  pub signatures : Scheme
  -- the ledger state that it adopted last, or with which the pool opened
  pub ledger : LedgerState
  -- the ledger states before that one, oldest first
  pub former : List LedgerState
  -- how often each kind of refusal was answered
  pub refused : Counts
  -- the last ticket that its peer was offered
  pub cursor : ℕ

-- before it has asked anything
abbrev pub new_client : Pass → Scheme → LedgerState → Client
new_client pass signatures ledger = record {
  pass = pass;
  signatures = signatures;
  ledger = ledger;
  former = [];
  refused = none_counted;
  cursor = 0;
}

-- The verifier decides which signatures are good.
module _ (accepts : Accepts) where
  -- the pool after a history, as the client would have it alone
  abbrev pub served_at : Client → Log → ServedPool
  served_at k log = record {
    pool = state_after accepts log;
    signatures = k.signatures;
    former = k.former;
    refused = k.refused;
    cursor = k.cursor;
  }
