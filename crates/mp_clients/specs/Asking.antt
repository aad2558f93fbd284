-- What a conversation may ask once the pool is open, and what opens it.
use Rattle.std.specs.Prelude.{ℕ, nat_eq, Bool, true, false, List, Option, None, Some, option_and_then, if◌then◌else◌}
use Rattle.mp_lines.specs.Lines.{Line, Sets, Out, Submit, Remove, Sync, For, Asks}
use Rattle.std.specs.List.{list_all}
use Rattle.mp_serve.specs.TxWord.{TxWord, Named, Pooled}
use Rattle.mp_serve.specs.Ask.{Ask, Does, Submits, SubmitsBytes, Checks, Counts, Holds, Extends, Stages, StagesHeld, StagesOutput, Unstages, Syncs, Returns, ask_of}
use Rattle.mp_clients.specs.declared.conversation.Conversation.{Conversation}

-- caller 0
abbrev pub is_operator : ℕ → Bool
is_operator caller = nat_eq caller 0

-- what the pool opens with can't be declared any more, and only the operator may remove and sync
abbrev pub may_do : ℕ → Line → Bool
may_do caller (Sets setting) = false
may_do caller (Out name payment) = false
may_do caller (Remove ids) = is_operator caller
may_do caller (Sync ledger) = is_operator caller
may_do caller line = true

-- only the operator may stage, adopt ledger states and go back to them
abbrev pub may_ask : ℕ → Ask → Bool
may_ask caller (Does line) = may_do caller line
may_ask caller (Holds reference output) = false
may_ask caller (Extends block) = is_operator caller
may_ask caller (Stages bytes) = is_operator caller
may_ask caller (StagesHeld words) = is_operator caller
may_ask caller (StagesOutput reference output) = is_operator caller
may_ask caller Unstages = is_operator caller
may_ask caller (Syncs tick block_bytes) = is_operator caller
may_ask caller (Returns count) = is_operator caller
may_ask caller ask = true

abbrev pub allowed : ℕ → Ask → Option Ask
allowed caller ask = if may_ask caller ask then Some ask else None

-- what the line asks for, if it is in the language and the conversation may ask it
abbrev pub asked_by : {N : Type 0} → Conversation N → List ℕ → Option Ask
asked_by c line = option_and_then (allowed c.client.pass.caller) (ask_of c.names c.most_names line)

-- whether a line of a scenario asks something of the pool
abbrev pub does_open : Line → Bool
does_open (Submit t) = true
does_open (Remove ids) = true
does_open (Sync ledger) = true
does_open (For ledger) = true
does_open (Asks query) = true
does_open line = false

-- whether the word is a declared name; no other word means a transaction before the pool is open
abbrev pub is_named : TxWord → Bool
is_named (Named t) = true
is_named (Pooled id) = false

-- whether the pool opens for this
abbrev pub opens : Ask → Bool
opens (Does line) = does_open line
opens (Submits name t) = true
opens (SubmitsBytes bytes) = true
opens (Checks word) = is_named word
opens Counts = true
opens (Extends block) = list_all is_named block.txs
opens (Syncs tick block_bytes) = true
opens (Returns count) = true
opens ask = false
