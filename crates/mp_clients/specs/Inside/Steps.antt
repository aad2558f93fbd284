-- Parts of the answer to a line.
use Rattle.std.specs.Prelude.{◌≡◌, ℕ, List, [], Some, None}
use Rattle.std.specs.Arc.{arc_value}
use Rattle.mp_rules.specs.Verifier.{Accepts}
use Rattle.mp_tx.specs.Transaction.{Transaction}
use Rattle.mp_names.specs.Names.{Names}
use Rattle.mp_serve.specs.Ask.{NewBlock}
use Rattle.mp_serve.specs.Request.{Request, ResolvedBlock, respond}
use Rattle.mp_clients.specs.declared.conversation.Conversation.{Conversation}
use Rattle.mp_serve.specs.declared.conversation.Conversation as alone
use Rattle.mp_serve.specs.Talk.{Step, block_at, block_txs}
use Rattle.mp_clients.specs.declared.stop.ClientStop.{ClientStop}
use Rattle.mp_clients.specs.declared.stop.ClientStop.TheVariants.{NoMemory, Untold, Foreign}
use Rattle.mp_clients.specs.Client.{Client, served_at}
use Rattle.mp_clients.specs.Alone.{alone_at, stage_of}
use Rattle.mp_clients.specs.Answers.{IsUnchanged}

-- the pool that the client has seen responds so, and the client has seen no more
pub record Responds (accepts : Accepts) (names : Names) (k : Client) (request : Request) (text : List ℕ) (after : Client)
    : Type 0 where
  pub said : respond names (served_at accepts k k.pass.front) request ≡ (served_at accepts after k.pass.front, text)
  pub pass : after.pass ≡ k.pass
  pub ledger : after.ledger ≡ k.ledger
  pub signatures : after.signatures ≡ k.signatures

-- With the pool that the conversation has seen, the step leads to this text and this state, and the conversation has seen no more.
pub record IsToldAlone {N : Type 0} (accepts : Accepts) (c : Conversation N) (does : alone.Conversation → Step) (text : List ℕ)
    (u : Conversation N) : Type 0 where
  pub said : does (alone_at accepts c c.client.pass.front) ≡ Some (alone_at accepts u c.client.pass.front, text)
  pub pass : u.client.pass ≡ c.client.pass
  pub ledger : u.client.ledger ≡ c.client.ledger

-- With that pool, the step is bad.
abbrev pub IsBadAlone : {N : Type 0} → Accepts → Conversation N → (alone.Conversation → Step) → Type 0
IsBadAlone accepts c does = does (alone_at accepts c c.client.pass.front) ≡ None

-- With that pool, the block of the line is this one.
abbrev pub IsMeantBlock : {N : Type 0} → Accepts → Conversation N → NewBlock → ResolvedBlock → Type 0
IsMeantBlock accepts c b block =
    (txs : List Transaction) × (block_txs c.staged (stage_of accepts c.client) b.txs ≡ Some txs) × (block ≡ block_at (arc_value c.settings) b txs)

module _ {N : Type 0} (accepts : Accepts) (callers : ℕ) where
  -- After an allocation failure nothing has changed but what the conversation has seen; or the change was made, and only its answer
  -- and its name are lost.
  abbrev pub IsStopped : (List ℕ → Conversation N → Type 0) → Conversation N → Conversation N → ClientStop → Type 0
  IsStopped Does c u NoMemory = IsUnchanged accepts callers c u
  IsStopped Does c u Untold =
      (text : List ℕ) × (v : Conversation N) × Does text v × (u ≡ record v { names = c.names })
  IsStopped Does c u Foreign = IsUnchanged accepts callers c u
