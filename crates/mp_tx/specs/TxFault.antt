-- The fault of parts or bytes that make no transaction.
use Rattle.std.specs.Prelude.{◌≡◌, ℕ, ◌&&◌, Bool, not, List, length, Option, None, Some, Err, if◌then◌else◌, nat_le, nat_lt}
use Rattle.std.specs.Option.{option_or}
use Rattle.mp_tx.specs.declared.fault.TxFault.{TxFault}
use Rattle.mp_tx.specs.declared.fault.TxFault.TheVariants.{NoMemory, Truncated, Trailing, BadVersion, NotRising, BadBundle, BadScript, BadData, BadInterval, TooLarge, ReferenceSpent, NoReferences}
use Rattle.mp_tx.specs.declared.tx.TxParts.{TxParts}
use Rattle.mp_tx.specs.Reference.{ref_cmp}
use Rattle.mp_tx.specs.Rising.{rises}
use Rattle.mp_tx.specs.Transaction.{Transaction, spent_refs, script_cmp, signature_cmp, spends_none}
use Rattle.mp_tx.specs.Spelling.{size_of}
use Rattle.mp_tx.specs.Reading.{transaction_of}

-- the transaction that parts make
abbrev pub parts_of : TxParts → Transaction
parts_of p = record {
  inputs = p.inputs.items;
  references = p.references.items;
  outputs = p.outputs.items;
  from = p.from;
  to = p.to;
  forge = p.forge;
  scripts = p.scripts.items;
  signatures = p.signatures.items;
}

abbrev pub all_rise : Transaction → Bool
all_rise t = rises ref_cmp (spent_refs t.inputs) && rises ref_cmp t.references && rises script_cmp t.scripts && rises signature_cmp t.signatures

-- at most 256 inputs, 256 references, 256 outputs and 16,384 bytes
abbrev pub is_small : Transaction → Bool
is_small t = nat_le (length t.inputs) 256 && nat_le (length t.references) 256 && nat_le (length t.outputs) 256 && nat_le (size_of t) 16384

-- the first fault in the order of the parts, in this order
abbrev pub order_fault : Transaction → Option TxFault
order_fault t =
    if not (all_rise t) then Some NotRising
    else if not (spends_none t.inputs t.references) then Some ReferenceSpent
    else if nat_lt t.to t.from then Some BadInterval
    else None

-- the fault of parts; their size is checked last
abbrev pub parts_fault : Transaction → Option TxFault
parts_fault t = option_or (order_fault t) (if is_small t then None else Some TooLarge)

-- why these parts make no transaction; an allocation failure is always possible
abbrev pub IsPartsFault : Transaction → TxFault → Type 0
IsPartsFault t NoMemory = Unit {0}
IsPartsFault t fault = parts_fault t ≡ Some fault

-- why these bytes spell no transaction; an allocation failure is always possible
abbrev pub IsBytesFault : List ℕ → TxFault → Type 0
IsBytesFault bytes NoMemory = Unit {0}
IsBytesFault bytes fault = transaction_of bytes ≡ Err fault

abbrev pub number : TxFault → ℕ
number NoMemory = 1
number Truncated = 2
number Trailing = 3
number BadVersion = 4
number NotRising = 5
number BadBundle = 6
number BadScript = 7
number BadData = 8
number BadInterval = 9
number TooLarge = 10
number ReferenceSpent = 11
number NoReferences = 12
