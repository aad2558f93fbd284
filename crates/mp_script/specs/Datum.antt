-- Data, and the bytes that spell them.
use Rattle.std.specs.Prelude.{◌≡◌, ℕ, zero, suc, ◌<◌, ◌≤◌, ◌^◌, ℤ, List, [], ◌∷◌, ◌++◌, length, max, Option, Some, None}
use Rattle.std.specs.Int.{w16, w64, to_be_bytes, cast_unsigned}
use Rattle.std.specs.Int.RustNames.{FitsSigned}

mutual
  -- a whole number, bytes, or a list of data
  pub data Datum : Type 0 where
    number : ℤ → Datum
    octets : List ℕ → Datum
    list : Items → Datum

  -- the items of a list, in order
  pub data Items : Type 0 where
    none : Items
    item : Datum → Items → Items

abbrev pub count : Items → ℕ
count none = 0
count (item d ds) = suc (count ds)

abbrev mutual
  -- numbers, bytes and the empty list have depth 1; the depth of another list is one more than that of its deepest item
  pub depth : Datum → ℕ
  depth (number n) = 1
  depth (octets bytes) = 1
  depth (list items) = suc (deepest items)

  pub deepest : Items → ℕ
  deepest none = 0
  deepest (item d ds) = max (depth d) (deepest ds)

abbrev mutual
  -- numbers have 64 bits; bytes and lists have at most 65,535 members
  pub Fits : Datum → Type 0
  Fits (number n) = FitsSigned w64 n
  Fits (octets bytes) = length bytes < 2 ^ 16
  Fits (list items) = (count items < 2 ^ 16) × AllFit items

  pub AllFit : Items → Type 0
  AllFit none = Unit {0}
  AllFit (item d ds) = Fits d × AllFit ds

abbrev mutual
  -- a tag, and then 8 bytes in two's complement, or a 2-byte count and that many bytes or data
  pub spelling : Datum → List ℕ
  spelling (number n) = 1 ∷ to_be_bytes w64 (cast_unsigned w64 n)
  spelling (octets bytes) = 2 ∷ to_be_bytes w16 (length bytes) ++ bytes
  spelling (list items) = 3 ∷ to_be_bytes w16 (count items) ++ spellings items

  pub spellings : Items → List ℕ
  spellings none = []
  spellings (item d ds) = spelling d ++ spellings ds

-- the bytes spell the datum
pub record Spells (bytes : List ℕ) (d : Datum) : Type 0 where
  pub fits : Fits d
  pub shallow : depth d ≤ 16
  pub spelled : bytes ≡ spelling d

-- the bytes spell a datum
abbrev pub IsDatum : List ℕ → Type 0
IsDatum bytes = (d : Datum) × Spells bytes d

-- the number, if the datum is one
abbrev pub number_in : Datum → Option ℤ
number_in (number n) = Some n
number_in _ = None

-- the bytes, if the datum is bytes
abbrev pub octets_in : Datum → Option (List ℕ)
octets_in (octets bytes) = Some bytes
octets_in _ = None

-- the number of items, if the datum is a list
abbrev pub length_in : Datum → Option ℕ
length_in (list items) = Some (count items)
length_in _ = None

-- the item at an index, from 0
abbrev pub item_at : Items → ℕ → Option Datum
item_at none place = None
item_at (item d ds) zero = Some d
item_at (item d ds) (suc place) = item_at ds place

abbrev pub item_in : Datum → ℕ → Option Datum
item_in (list items) place = item_at items place
item_in _ place = None
