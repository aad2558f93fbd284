-- What a line of a conversation asks for, given what was declared before it.
use Rattle.std.specs.Prelude.{ℕ, ◌+◌, ◌-◌, ◌*◌, ◌==◌, ◌&&◌, Bool, true, false, nat_eq, nat_lt, List, [], ◌∷◌, ◌++◌, length, codes, Option, None, Some, option_map, option_and_then, if◌then◌else◌}
use Rattle.std.specs.Option.{option_or}
use Rattle.std.specs.Cmp.Lexicographic.{pointwise}
use Rattle.mp_text.specs.Lines.{is_clean}
use Rattle.mp_text.specs.Numbers.{number_of}
use Rattle.mp_text.specs.Words.{words_of}
use Rattle.mp_tx.specs.declared.reference.OutRef.{OutRef}
use Rattle.mp_tx.specs.declared.output.Output.{Output}
use Rattle.mp_tx.specs.Transaction.{Transaction}
use Rattle.mp_names.specs.Names.{Names, tx_named, is_new_binding, is_among, has_many}
use Rattle.mp_names.specs.Ids.{id_in}
use Rattle.mp_lines.specs.Words.{no_word, one_word, two_words}
use Rattle.mp_lines.specs.Ledgers.{LedgerHead, head_of}
use Rattle.mp_lines.specs.Lines.{Line, Script, Data, Out, Tx, bytes_of, line_of}
use Rattle.mp_serve.specs.Output.{output_in, ref_in}
use Rattle.mp_serve.specs.TxWord.{TxWord, Pooled, tx_word_of}

-- words for a block's transactions, or none for those that are staged; with the tick, and the block bytes if the line gives them
pub record NewBlock : Type 0 where
  pub tick : ℕ
  pub block_bytes : Option ℕ
  pub txs : List TxWord

pub data Ask : Type 0 where
  -- what a line of a scenario asks for
  Does : Line → Ask
  -- read a transaction from these bytes, under the name
  Reads : List ℕ → List ℕ → Ask
  -- submit the transaction, and report it under the name from then on
  Submits : List ℕ → Transaction → Ask
  -- submit the transaction that has these bytes; it has no name
  SubmitsBytes : List ℕ → Ask
  -- the bytes of the transaction
  Shows : TxWord → Ask
  -- what its submit would answer
  Checks : TxWord → Ask
  -- the pool's numbers
  Counts : Ask
  -- add the output to the opening ones
  Holds : OutRef → Output → Ask
  -- adopt the ledger state after the block
  Extends : NewBlock → Ask
  -- stage the transaction that has these bytes
  Stages : List ℕ → Ask
  -- stage the transactions of these words
  StagesHeld : List TxWord → Ask
  -- stage the output
  StagesOutput : OutRef → Output → Ask
  -- forget what is staged
  Unstages : Ask
  -- adopt the ledger state that has the staged outputs; with the tick, and the block bytes if the line gives them
  Syncs : ℕ → Option ℕ → Ask
  -- adopt the ledger state this many steps ago
  Returns : ℕ → Ask
  -- forget these names
  Forgets : List (List ℕ) → Ask
  -- report transactions by their ids from then on, or by their names
  ReportsById : Bool → Ask
  -- forget all names, and begin again with line 1
  Resets : Ask

-- bytes NAME HEX
abbrev pub bytes_by : Names → List ℕ × List ℕ → Option Ask
bytes_by names words = if is_new_binding words.0 names then option_map (Reads words.0) (bytes_of words.1) else None

abbrev pub bytes_ask : Names → List (List ℕ) → Option Ask
bytes_ask names words = option_and_then (bytes_by names) (two_words words)

-- give HEX
abbrev pub give_ask : List (List ℕ) → Option Ask
give_ask words = option_map SubmitsBytes (option_and_then bytes_of (one_word words))

abbrev pub submit_by : Names → List ℕ → Option Ask
submit_by names word = option_map (λ t. Submits word t.tx) (tx_named word names)

-- submit TX
abbrev pub submit_ask : Names → List (List ℕ) → Option Ask
submit_ask names words = option_and_then (submit_by names) (one_word words)

-- the line's one word, which is for a transaction
abbrev pub one_tx : Names → List (List ℕ) → Option TxWord
one_tx names words = option_and_then (tx_word_of names) (one_word words)

abbrev pub entry_by : List ℕ × List ℕ → Option (OutRef × Output)
entry_by words = option_and_then (λ r. option_map (λ o. (r, o)) (option_and_then output_in (bytes_of words.1))) (ref_in words.0)

-- ID#INDEX HEX: an output with its reference
abbrev pub entry_of : List (List ℕ) → Option (OutRef × Output)
entry_of words = option_and_then entry_by (two_words words)

-- utxo ID#INDEX HEX
abbrev pub utxo_ask : List (List ℕ) → Option Ask
utxo_ask words = option_map (λ e. Holds e.0 e.1) (entry_of words)

-- these words for transactions, and then the others
abbrev pub put_txs : Names → List TxWord → List (List ℕ) → Option (List TxWord)
put_txs names txs [] = Some txs
put_txs names txs (word ∷ words) = option_and_then (λ t. put_txs names (txs ++ t ∷ []) words) (tx_word_of names word)

abbrev pub block_with : LedgerHead → List TxWord → Ask
block_with head txs = Extends (record { tick = head.tick; block_bytes = head.block_bytes; txs = txs })

abbrev pub block_behind : Names → LedgerHead → Option Ask
block_behind names head = option_map (block_with head) (put_txs names [] head.rest)

-- adopt TICK [block=N] TX ..
abbrev pub adopt_ask : Names → List (List ℕ) → Option Ask
adopt_ask names words = option_and_then (block_behind names) (head_of words)

-- words for the transactions with these ids, after these
abbrev pub put_ids : List TxWord → List (List ℕ) → Option (List TxWord)
put_ids txs [] = Some txs
put_ids txs (word ∷ words) = option_and_then (λ id. put_ids (txs ++ Pooled id ∷ []) words) (id_in word)

-- whether the word begins with the number sign, 35
abbrev pub is_marked : List ℕ → Bool
is_marked [] = false
is_marked (byte ∷ bytes) = byte == 35

abbrev pub stage_held_ask : List (List ℕ) → Option Ask
stage_held_ask words = option_map StagesHeld (put_ids [] words)

abbrev pub stage_bytes_ask : List (List ℕ) → Option Ask
stage_bytes_ask words = option_map Stages (option_and_then bytes_of (one_word words))

abbrev pub stage_output_ask : List (List ℕ) → Option Ask
stage_output_ask words = option_map (λ e. StagesOutput e.0 e.1) (entry_of words)

-- stage utxo ID#INDEX HEX, stage #ID .., stage HEX
abbrev pub stage_ask : List (List ℕ) → Option Ask
stage_ask [] = None
stage_ask (word ∷ words) =
    if pointwise nat_eq word (codes "utxo") then stage_output_ask words
    else if is_marked word then stage_held_ask (word ∷ words)
    else stage_bytes_ask (word ∷ words)

abbrev pub is_staged_word : List ℕ → Bool
is_staged_word word = pointwise nat_eq word (codes "staged")

abbrev pub staged_behind : LedgerHead → Option Ask
staged_behind head =
    option_and_then (λ word. if is_staged_word word then Some (Syncs head.tick head.block_bytes) else None) (one_word head.rest)

-- TICK [block=N] staged
abbrev pub staged_ask : List (List ℕ) → Option Ask
staged_ask words = option_and_then staged_behind (head_of words)

-- a line of scenarios; otherwise sync TICK [block=N] staged
abbrev pub sync_ask : Names → List ℕ → List (List ℕ) → Option Ask
sync_ask names line words = option_or (option_map Does (line_of names line)) (staged_ask words)

-- back COUNT
abbrev pub back_ask : List (List ℕ) → Option Ask
back_ask words = option_map Returns (option_and_then number_of (one_word words))

-- these names and then the others; none may occur twice
abbrev pub put_names : List (List ℕ) → List (List ℕ) → Option (List (List ℕ))
put_names names [] = Some names
put_names names (word ∷ words) = if is_among names word then None else put_names (names ++ word ∷ []) words

-- forget NAME .., at least one
abbrev pub forget_ask : List (List ℕ) → Option Ask
forget_ask [] = None
forget_ask (word ∷ words) = option_map Forgets (put_names [] (word ∷ words))

-- forget, ids, names, reset; otherwise a line of scenarios
abbrev pub names_ask : Names → List ℕ → List ℕ → List (List ℕ) → Option Ask
names_ask names line word words =
    if pointwise nat_eq word (codes "forget") then forget_ask words
    else if pointwise nat_eq word (codes "ids") then option_map (λ u. ReportsById true) (no_word words)
    else if pointwise nat_eq word (codes "names") then option_map (λ u. ReportsById false) (no_word words)
    else if pointwise nat_eq word (codes "reset") then option_map (λ u. Resets) (no_word words)
    else option_map Does (line_of names line)

-- stage, unstage, sync; otherwise the lines above
abbrev pub staging_ask : Names → List ℕ → List ℕ → List (List ℕ) → Option Ask
staging_ask names line word words =
    if pointwise nat_eq word (codes "stage") then stage_ask words
    else if pointwise nat_eq word (codes "unstage") then option_map (λ u. Unstages) (no_word words)
    else if pointwise nat_eq word (codes "sync") then sync_ask names line words
    else names_ask names line word words

-- utxo, adopt, back; otherwise the lines above
abbrev pub ledger_ask : Names → List ℕ → List ℕ → List (List ℕ) → Option Ask
ledger_ask names line word words =
    if pointwise nat_eq word (codes "utxo") then utxo_ask words
    else if pointwise nat_eq word (codes "adopt") then adopt_ask names words
    else if pointwise nat_eq word (codes "back") then back_ask words
    else staging_ask names line word words

-- by the first word: bytes, give, submit, show TX, check TX, stats; otherwise the lines above
abbrev pub clean_ask : Names → List ℕ → List ℕ → List (List ℕ) → Option Ask
clean_ask names line word words =
    if pointwise nat_eq word (codes "bytes") then bytes_ask names words
    else if pointwise nat_eq word (codes "give") then give_ask words
    else if pointwise nat_eq word (codes "submit") then submit_ask names words
    else if pointwise nat_eq word (codes "show") then option_map Shows (one_tx names words)
    else if pointwise nat_eq word (codes "check") then option_map Checks (one_tx names words)
    else if pointwise nat_eq word (codes "stats") then option_map (λ u. Counts) (no_word words)
    else ledger_ask names line word words

abbrev pub words_ask : Names → List ℕ → List (List ℕ) → Option Ask
words_ask names line [] = option_map Does (line_of names line)
words_ask names line (word ∷ words) = clean_ask names line word words

-- lines of bytes, of an output, and of what is staged may be longer than others
abbrev pub hex_ask : Names → List ℕ → List (List ℕ) → Option Ask
hex_ask names word words =
    if pointwise nat_eq word (codes "bytes") then bytes_ask names words
    else if pointwise nat_eq word (codes "give") then give_ask words
    else if pointwise nat_eq word (codes "utxo") then utxo_ask words
    else if pointwise nat_eq word (codes "stage") then stage_ask words
    else None

abbrev pub long_ask : Names → List (List ℕ) → Option Ask
long_ask names [] = None
long_ask names (word ∷ words) = hex_ask names word words

abbrev pub ask_within : Names → List ℕ → Option Ask
ask_within names line = if is_clean line then words_ask names line (words_of line) else long_ask names (words_of line)

-- whether a line of scenarios declares a name
abbrev pub does_declare : Line → Bool
does_declare (Script named) = true
does_declare (Data named) = true
does_declare (Out name payment) = true
does_declare (Tx name t) = true
does_declare line = false

abbrev pub declares : Ask → Bool
declares (Does line) = does_declare line
declares (Reads name bytes) = true
declares ask = false

-- once there are this many names, no other is declared
abbrev pub within : Names → ℕ → Ask → Option Ask
within names most ask = if declares ask && has_many names most then None else Some ask

-- The longest line is `stage utxo ID#INDEX HEX`, for the largest output that a transaction of 16,384 bytes can have, with 27 bytes
-- around it. An index has at most 20 digits.
abbrev pub longest : ℕ
longest = 11 + 64 + 1 + 20 + 1 + 2 * (16384 - 27)

-- what the line asks for, if it is in the language, in which no line is longer, and if there may be the names that it declares
unfoldable pub ask_of : Names → ℕ → List ℕ → Option Ask
ask_of names most line = if nat_lt longest (length line) then None else option_and_then (within names most) (ask_within names line)
