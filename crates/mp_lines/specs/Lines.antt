-- The meaning of lines, given the declarations before them.
use Rattle.std.specs.Prelude.{ℕ, ◌++◌, nat_eq, List, [], ◌∷◌, codes, Option, None, Some, option_map, option_and_then, if◌then◌else◌, Result, Ok, Err, is_ok}
use Rattle.std.specs.Cmp.Lexicographic.{pointwise}
use Rattle.hex.specs.Hex.{decode_of}
use Rattle.hex.specs.declared.error.FromHexError.{FromHexError}
use Rattle.mp_text.specs.Numbers.{number_of}
use Rattle.mp_text.specs.Words.{words_of, are_none_or_comment}
use Rattle.mp_text.specs.Lines.{is_clean}
use Rattle.mp_script.specs.ScriptReading.{script_of}
use Rattle.mp_script.specs.DataReading.{datum_of}
use Rattle.mp_tx.specs.Transaction.{Transaction}
use Rattle.mp_names.specs.declared.payment.Payment.{Payment}
use Rattle.mp_names.specs.declared.names.NamedScript.{NamedScript}
use Rattle.mp_names.specs.declared.names.NamedDatum.{NamedDatum}
use Rattle.mp_names.specs.declared.settings.Setting.{Setting}
use Rattle.mp_names.specs.declared.settings.Setting.TheVariants.{BlockBytes, Limit, Last, Tick}
use Rattle.mp_names.specs.declared.new_ledger.NewLedger.{NewLedger}
use Rattle.mp_names.specs.Settings.{block_bytes_of, limit_of}
use Rattle.mp_names.specs.DeclaredTx.{DeclaredTx}
use Rattle.mp_names.specs.Names.{Names, tx_named, is_new_binding, is_new_script, is_new_datum}
use Rattle.mp_names.specs.Ids.{id_meant}
use Rattle.mp_names.specs.Payments.{payment_of}
use Rattle.mp_lines.specs.declared.query.Query.{Query}
use Rattle.mp_lines.specs.Words.{one_word, two_words}
use Rattle.mp_lines.specs.Draft.{empty_draft, draft_of, declared_of}
use Rattle.mp_lines.specs.Ledgers.{ledger_of}
use Rattle.mp_lines.specs.Queries.{query_of}

pub data Line : Type 0 where
  -- no word, or a comment
  Blank : Line
  Sets : Setting → Line
  Script : NamedScript → Line
  Data : NamedDatum → Line
  Out : List ℕ → Payment → Line
  Tx : List ℕ → DeclaredTx → Line
  Submit : Transaction → Line
  -- the ids
  Remove : List (List ℕ) → Line
  Sync : NewLedger → Line
  -- asks which transactions would stay on this ledger state
  For : NewLedger → Line
  Asks : Query → Line

-- block N, limit N, last N, tick N
abbrev pub block_line : List (List ℕ) → Option Line
block_line words = option_map (λ n. Sets (BlockBytes n)) (option_and_then block_bytes_of (one_word words))

abbrev pub limit_line : List (List ℕ) → Option Line
limit_line words = option_map (λ n. Sets (Limit n)) (option_and_then limit_of (one_word words))

abbrev pub last_line : List (List ℕ) → Option Line
last_line words = option_map (λ n. Sets (Last n)) (option_and_then number_of (one_word words))

abbrev pub tick_line : List (List ℕ) → Option Line
tick_line words = option_map (λ n. Sets (Tick n)) (option_and_then number_of (one_word words))

-- hexadecimal digits of either case
abbrev pub bytes_of : List ℕ → Option (List ℕ)
bytes_of digits = bytes_in (decode_of digits)
  where
    bytes_in : Result (List ℕ) FromHexError → Option (List ℕ)
    bytes_in (Ok bytes) = Some bytes
    bytes_in (Err e) = None

abbrev pub if_script : List ℕ → Option (List ℕ)
if_script bytes = if is_ok (script_of bytes) then Some bytes else None

abbrev pub if_datum : List ℕ → Option (List ℕ)
if_datum bytes = if is_ok (datum_of bytes) then Some bytes else None

abbrev pub script_named_by : List ℕ → List ℕ → Line
script_named_by name bytes = Script (record { name = name; script = bytes })

abbrev pub datum_named_by : List ℕ → List ℕ → Line
datum_named_by name bytes = Data (record { name = name; datum = bytes })

-- script NAME HEX
abbrev pub script_by : Names → List ℕ × List ℕ → Option Line
script_by names words =
    if is_new_script words.0 names then option_map (script_named_by words.0) (option_and_then if_script (bytes_of words.1)) else None

abbrev pub script_line : Names → List (List ℕ) → Option Line
script_line names words = option_and_then (script_by names) (two_words words)

-- data NAME HEX
abbrev pub data_by : Names → List ℕ × List ℕ → Option Line
data_by names words =
    if is_new_datum words.0 names then option_map (datum_named_by words.0) (option_and_then if_datum (bytes_of words.1)) else None

abbrev pub data_line : Names → List (List ℕ) → Option Line
data_line names words = option_and_then (data_by names) (two_words words)

-- out NAME PAY
abbrev pub output_by : Names → List ℕ × List ℕ → Option Line
output_by names words =
    if is_new_binding words.0 names then option_map (Out words.0) (payment_of names words.1) else None

abbrev pub output_line : Names → List (List ℕ) → Option Line
output_line names words = option_and_then (output_by names) (two_words words)

-- tx NAME ITEM .., with at least one item
abbrev pub tx_line : Names → List (List ℕ) → Option Line
tx_line names [] = None
tx_line names (name ∷ []) = None
tx_line names (name ∷ item ∷ items) =
    if is_new_binding name names
    then option_map (Tx name) (option_and_then declared_of (draft_of names empty_draft (item ∷ items)))
    else None

-- submit TX
abbrev pub submit_line : Names → List (List ℕ) → Option Line
submit_line names words = option_map (λ t. Submit t.tx) (option_and_then (λ w. tx_named w names) (one_word words))

-- the ids that the words mean, after these
abbrev pub put_ids : Names → List (List ℕ) → List (List ℕ) → Option (List (List ℕ))
put_ids names ids [] = Some ids
put_ids names ids (word ∷ words) = option_and_then (λ id. put_ids names (ids ++ id ∷ []) words) (id_meant names word)

-- remove TX .., with at least one word
abbrev pub remove_line : Names → List (List ℕ) → Option Line
remove_line names [] = None
remove_line names (word ∷ words) = option_map Remove (put_ids names [] (word ∷ words))

-- sync TICK [block=N] REF ..
abbrev pub sync_line : Names → List (List ℕ) → Option Line
sync_line names words = option_map Sync (ledger_of names words)

-- for TICK [block=N] REF ..
abbrev pub for_line : Names → List (List ℕ) → Option Line
for_line names words = option_map For (ledger_of names words)

-- a line that only reads
abbrev pub query_line : Names → List ℕ → List (List ℕ) → Option Line
query_line names word words = option_map Asks (query_of names word words)

-- by the first word
abbrev pub request_line : Names → List ℕ → List (List ℕ) → Option Line
request_line names word words =
    if pointwise nat_eq word (codes "submit") then submit_line names words
    else if pointwise nat_eq word (codes "remove") then remove_line names words
    else if pointwise nat_eq word (codes "sync") then sync_line names words
    else if pointwise nat_eq word (codes "for") then for_line names words
    else query_line names word words

abbrev pub declaration_or_request : Names → List ℕ → List (List ℕ) → Option Line
declaration_or_request names word words =
    if pointwise nat_eq word (codes "script") then script_line names words
    else if pointwise nat_eq word (codes "data") then data_line names words
    else if pointwise nat_eq word (codes "out") then output_line names words
    else if pointwise nat_eq word (codes "tx") then tx_line names words
    else request_line names word words

abbrev pub any_line : Names → List ℕ → List (List ℕ) → Option Line
any_line names word words =
    if pointwise nat_eq word (codes "block") then block_line words
    else if pointwise nat_eq word (codes "limit") then limit_line words
    else if pointwise nat_eq word (codes "last") then last_line words
    else if pointwise nat_eq word (codes "tick") then tick_line words
    else declaration_or_request names word words

abbrev pub words_line : Names → List (List ℕ) → Option Line
words_line names [] = Some Blank
words_line names (word ∷ words) = if are_none_or_comment (word ∷ words) then Some Blank else any_line names word words

-- the meaning of the line, if it is one of the language
unfoldable pub line_of : Names → List ℕ → Option Line
line_of names line = if is_clean line then words_line names (words_of line) else None
