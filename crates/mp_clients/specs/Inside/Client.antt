-- How contracts see a client, and its invariant.
use Rattle.std.specs.Prelude.{◌≡◌, ℕ, ◌≤◌, List, length}
use Rattle.mp_tx.specs.Ledger.{LedgerState}
use Rattle.mp_rules.specs.Verifier.{Accepts}
use Rattle.mp_signatures.specs.declared.scheme.Scheme.{Scheme}
use Rattle.mp_signatures.specs.Scheme.{accepted_by}
use Rattle.mp_mempool.specs.Pass.{Pass}
use Rattle.mp_serve.specs.declared.former.Former.{Former}
use Rattle.mp_serve.specs.declared.refused.Counts.{Counts}
use Rattle.mp_serve.specs.Inside.Former.{states_of, CanAllGoBack}
use Rattle.mp_clients.specs.Client.{Client}

-- given what leads back to the former ledger states
abbrev pub client_of : Pass → Scheme → LedgerState → List Former → Counts → ℕ → Client
client_of pass signatures ledger formers refused cursor = record {
  pass = pass;
  signatures = signatures;
  ledger = ledger;
  former = states_of formers ledger;
  refused = refused;
  cursor = cursor;
}

-- the verifier is the pool's, and so is the limit of changes; it can go back to each of its former ledger states, at most 2,160
pub record IsClient (accepts : Accepts) (signatures : Scheme) (limit : ℕ) (pass : Pass) (ledger : LedgerState) (formers : List Former)
    : Type 0 where
  pub verifier : accepted_by signatures ≡ accepts
  pub limit_is : limit ≡ pass.front.opening.limit
  pub few : length formers ≤ 2160
  pub can : CanAllGoBack formers ledger
