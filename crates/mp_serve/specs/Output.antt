-- An output by its bytes, and its reference by its id and index.
use Rattle.std.specs.Prelude.{ℕ, ◌-◌, ◌^◌, ◌==◌, ◌&&◌, nat_eq, Bool, List, [], ◌∷◌, ◌++◌, length, replicate, slice_get, Option, None, Some, option_map, option_and_then, if◌then◌else◌, Result, Ok, Err}
use Rattle.mp_tx.specs.declared.reference.OutRef.{OutRef}
use Rattle.mp_tx.specs.declared.output.Output.{Output}
use Rattle.mp_tx.specs.declared.fault.TxFault.{TxFault}
use Rattle.mp_tx.specs.Transaction.{Transaction}
use Rattle.mp_tx.specs.Reading.{transaction_of}
use Rattle.mp_names.specs.Numbers.{number_in}
use Rattle.mp_names.specs.Splitting.{split_once}
use Rattle.mp_lines.specs.Lines.{bytes_of}

-- a transaction of format 1 with one output, which has these bytes, for any tick and with nothing else
abbrev pub around : List ℕ → List ℕ
around bytes = (1 ∷ 0 ∷ 0 ∷ 0 ∷ 1 ∷ []) ++ bytes ++ replicate 8 0 ++ replicate 8 255 ++ replicate 6 0

abbrev pub has_nothing_else : Transaction → Bool
has_nothing_else t =
    (length t.inputs == 0) && nat_eq t.from 0 && nat_eq t.to (2 ^ 64 - 1) && (length t.forge == 0) && (length t.scripts == 0) && (length t.signatures == 0)

-- its first output, if it has nothing else
abbrev pub sole_output : Transaction → Option Output
sole_output t = if has_nothing_else t then slice_get t.outputs 0 else None

abbrev pub output_found : Result Transaction TxFault → Option Output
output_found (Ok t) = sole_output t
output_found (Err fault) = None

-- the output that has these bytes in a transaction
abbrev pub output_in : List ℕ → Option Output
output_in bytes = output_found (transaction_of (around bytes))

abbrev pub id_in : List ℕ → Option (List ℕ)
id_in bytes = if length bytes == 32 then Some bytes else None

abbrev pub ref_with : List ℕ → ℕ → OutRef
ref_with id index = record { id = id; index = index }

-- 64 digits, then the index after the number sign, 35
abbrev pub ref_by : List ℕ → Option (List ℕ) → Option OutRef
ref_by digits None = None
ref_by digits (Some index) =
    option_and_then (λ id. option_map (ref_with id) (number_in 0 (2 ^ 16 - 1) index)) (option_and_then id_in (bytes_of digits))

-- ID#INDEX
unfoldable pub ref_in : List ℕ → Option OutRef
ref_in word = ref_by (split_once 35 word).0 (split_once 35 word).1
