-- Reading a datum: the datum at the front of bytes and the bytes after it, or the first fault from the left.
use Rattle.std.specs.Prelude.{◌≡◌, ◌⊎◌, ℕ, zero, suc, List, [], ◌∷◌, Result, Ok, Err, if◌then◌else◌, nat_eq}
use Rattle.mp_script.specs.declared.fault.DataFault.{DataFault}
use Rattle.mp_script.specs.declared.fault.DataFault.TheVariants.{NoMemory, Truncated, BadTag, TooDeep, Trailing}
use Rattle.mp_bytes.specs.Fields.{number_at, count_at, sized_at}
use Rattle.mp_bytes.specs.Reading.{◌>>=◌, or_fault}
use Rattle.mp_script.specs.Datum.{Datum, Items, number, octets, list, none, item, IsDatum}

abbrev pub Read : Type 0 → Type 0
Read A = Result (A × List ℕ) DataFault

unfoldable pub number_read : List ℕ → Read Datum
number_read bytes = do
  n ← or_fault Truncated (number_at bytes)
  Ok (number n.0, n.1)

unfoldable pub octets_read : List ℕ → Read Datum
octets_read bytes = do
  run ← or_fault Truncated (sized_at bytes)
  Ok (octets run.0, run.1)

-- n data, each read by `read`
abbrev pub items_read : (List ℕ → Read Datum) → ℕ → List ℕ → Read Items
items_read read zero bytes = Ok (none, bytes)
items_read read (suc n) bytes = do
  first ← read bytes
  more ← items_read read n first.1
  Ok (item first.0 more.0, more.1)

unfoldable pub list_read : (List ℕ → Read Datum) → List ℕ → Read Datum
list_read read bytes = do
  n ← or_fault Truncated (count_at bytes)
  items ← items_read read n.0 n.1
  Ok (list items.0, items.1)

-- a datum of at most this depth
abbrev pub datum_read : ℕ → List ℕ → Read Datum
datum_read most [] = Err Truncated
datum_read zero (tag ∷ bytes) = Err TooDeep
datum_read (suc most) (tag ∷ bytes) =
    if nat_eq tag 1 then number_read bytes
    else if nat_eq tag 2 then octets_read bytes
    else if nat_eq tag 3 then list_read (datum_read most) bytes
    else Err BadTag

-- nothing may follow
abbrev pub whole : {A : Type 0} → A × List ℕ → Result A DataFault
whole (x, []) = Ok x
whole (x, b ∷ bytes) = Err Trailing

-- the datum that the bytes spell, or the first fault
abbrev pub datum_of : List ℕ → Result Datum DataFault
datum_of bytes = datum_read 16 bytes >>= whole

abbrev pub or_unit : Result Datum DataFault → Datum
or_unit (Ok d) = d
or_unit (Err e) = list none

-- the datum that the bytes spell, or the empty list if they spell none
abbrev pub tree_of : List ℕ → Datum
tree_of bytes = or_unit (datum_of bytes)

-- the fault is the first one; if there is none, it is an allocation failure
abbrev pub IsFaultOf : List ℕ → DataFault → Type 0
IsFaultOf bytes fault = (datum_of bytes ≡ Err fault) ⊎ ((fault ≡ NoMemory) × IsDatum bytes)
