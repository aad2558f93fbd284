-- The ledger states of lines: TICK [block=N] REF .., and the words before the references.
use Rattle.std.specs.Prelude.{ℕ, nat_eq, List, [], ◌∷◌, codes, Option, None, Some, option_map, option_and_then, if◌then◌else◌}
use Rattle.std.specs.Cmp.Lexicographic.{pointwise}
use Rattle.mp_text.specs.Numbers.{number_of}
use Rattle.mp_tx.specs.declared.reference.OutRef.{OutRef}
use Rattle.mp_tx.specs.declared.output.Output.{Output}
use Rattle.mp_names.specs.declared.new_ledger.NewLedger.{NewLedger}
use Rattle.mp_names.specs.Settings.{block_bytes_of}
use Rattle.mp_names.specs.Splitting.{split_once}
use Rattle.mp_names.specs.Names.{Names}
use Rattle.mp_names.specs.References.{ref_of, paid_at}
use Rattle.mp_names.specs.Outputs.{with_output}

-- the named outputs, after these
abbrev pub put_outputs : Names → List (OutRef × Output) → List (List ℕ) → Option (List (OutRef × Output))
put_outputs names outputs [] = Some outputs
put_outputs names outputs (word ∷ words) = option_and_then (λ o. put_outputs names o words) (with_output outputs (ref_of names word) (paid_at names word))

abbrev pub ledger_with : ℕ → Option ℕ → List (OutRef × Output) → NewLedger
ledger_with tick block_bytes outputs = record { tick = tick; block_bytes = block_bytes; outputs = outputs }

-- the text after `block=`; the equals sign is 61
unfoldable pub block_word : List ℕ → Option (List ℕ)
block_word word = if pointwise nat_eq (split_once 61 word).0 (codes "block") then (split_once 61 word).1 else None

-- the start of a line, before its outputs or transactions: TICK [block=N]
pub record LedgerHead : Type 0 where
  pub tick : ℕ
  -- the block bytes, if the line has them
  pub block_bytes : Option ℕ
  -- the remaining words
  pub rest : List (List ℕ)

abbrev pub block_bytes_by : Option (List ℕ) → List ℕ → List (List ℕ) → Option (Option ℕ × List (List ℕ))
block_bytes_by None word words = Some (None, word ∷ words)
block_bytes_by (Some value) word words = option_map (λ n. (Some n, words)) (block_bytes_of value)

-- the block bytes, if the first word has them, and the remaining words
abbrev pub block_bytes_in : List (List ℕ) → Option (Option ℕ × List (List ℕ))
block_bytes_in [] = Some (None, [])
block_bytes_in (word ∷ words) = block_bytes_by (block_word word) word words

abbrev pub head_at : List (List ℕ) → ℕ → Option LedgerHead
head_at words tick = option_map (λ b. record { tick = tick; block_bytes = b.0; rest = b.1 }) (block_bytes_in words)

abbrev pub head_of : List (List ℕ) → Option LedgerHead
head_of [] = None
head_of (tick ∷ words) = option_and_then (head_at words) (number_of tick)

abbrev pub ledger_behind : Names → LedgerHead → Option NewLedger
ledger_behind names head = option_map (ledger_with head.tick head.block_bytes) (put_outputs names [] head.rest)

abbrev pub ledger_of : Names → List (List ℕ) → Option NewLedger
ledger_of names words = option_and_then (ledger_behind names) (head_of words)
