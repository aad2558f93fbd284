-- What the pool opens with, for an operator and clients.
use Rattle.std.specs.Prelude.{◌≡◌, ℕ, List, [], map}
use Rattle.mp_tx.specs.Ledger.{LedgerState}
use Rattle.mp_rules.specs.Verifier.{Accepts}
use Rattle.mp_signatures.specs.declared.scheme.Scheme.{Scheme}
use Rattle.mp_seqpool.specs.Pool.{Pool}
use Rattle.mp_history.specs.Log.{Log, IsLegalLog}
use Rattle.mp_mempool.specs.Pass.{Pass}
use Rattle.mp_mempool.specs.Opening.{fresh_passes}
use Rattle.mp_names.specs.Names.{first_names}
use Rattle.mp_serve.specs.declared.conversation.Conversation as alone
use Rattle.mp_serve.specs.Talk.{served_in}
use Rattle.mp_clients.specs.declared.opening.Seat.{Seat}
use Rattle.mp_clients.specs.Client.{new_client}

-- a history without an entry
abbrev pub new_log : Pool → Log
new_log opening = record { opening = opening; entries = [] }

-- no name is declared, and nothing was asked
abbrev pub seat_of : {N : Type 0} → Scheme → LedgerState → ℕ → Pass → Seat N
seat_of signatures ledger most_names pass = record { names = first_names; most_names = most_names; client = new_client pass signatures ledger }

module _ {N : Type 0} (accepts : Accepts) (callers : ℕ) where
  -- The pool opened as this one: its first history, and a seat for each caller.
  pub record HasOpenedOn (signatures : Scheme) (opening : Pool) (most_names : ℕ) (front : Log) (seats : List (Seat N)) : Type 0 where
    pub front_is : front ≡ new_log opening
    pub legal : IsLegalLog accepts callers front
    pub seats_are : seats ≡ map (seat_of signatures opening.ledger most_names) (fresh_passes callers (new_log opening))

  -- It opened as it would in this conversation alone.
  abbrev pub HasOpened : alone.Conversation → Log → List (Seat N) → Type 0
  HasOpened c front seats = HasOpenedOn c.signatures (served_in c).pool c.most_names front seats
