-- Reading a transaction from the left, up to the first fault.
use Rattle.std.specs.Prelude.{◌≡◌, ◌≢◌, ℕ, zero, suc, Bool, not, List, [], ◌∷◌, length, Option, None, Some, Result, Ok, Err, is_none, is_ok, if◌then◌else◌, nat_eq, nat_lt}
use Rattle.mp_bytes.specs.Fields.{number_at, unsigned_at, count_at, run_at, sized_at}
use Rattle.mp_bytes.specs.Reading.{◌>>=◌, or_fault}
use Rattle.mp_bundle.specs.declared.token.Token.{Token}
use Rattle.mp_bundle.specs.Bundle.{TokenEntry}
use Rattle.mp_bundle.specs.BundleFault.{entry_fault}
use Rattle.mp_script.specs.DataReading.{datum_of}
use Rattle.mp_script.specs.ScriptReading.{script_of}
use Rattle.mp_tx.specs.declared.fault.TxFault.{TxFault}
use Rattle.mp_tx.specs.declared.fault.TxFault.TheVariants.{NoMemory, Truncated, Trailing, BadVersion, NotRising, BadBundle, BadScript, BadData, BadInterval, TooLarge, ReferenceSpent, NoReferences}
use Rattle.mp_tx.specs.declared.reference.OutRef.{OutRef}
use Rattle.mp_tx.specs.declared.input.Input.{Input}
use Rattle.mp_tx.specs.declared.output.Output.{Output}
use Rattle.mp_tx.specs.declared.signature.Signature.{Signature}
use Rattle.mp_tx.specs.Reference.{ref_cmp}
use Rattle.mp_tx.specs.Rising.{follows}
use Rattle.mp_tx.specs.Transaction.{Transaction, script_cmp, signature_cmp, spends}

-- a value at the front of bytes, with the bytes after it, or a fault
abbrev pub Read : Type 0 → Type 0
Read A = Result (A × List ℕ) TxFault

-- a field, or `Truncated` if its bytes are missing
abbrev pub field : {A : Type 0} → Option (A × List ℕ) → Read A
field o = or_fault Truncated o

-- what was read, if it passes a test, and else the fault
abbrev pub require : {A : Type 0} → Bool → TxFault → A → Result A TxFault
require test fault x = if test then Ok x else Err fault

-- n items, each read with the key of the one before it
abbrev pub items_read : {K X : Type 0} → (X → K) → (Option K → List ℕ → Read X) → Option K → ℕ → List ℕ → Read (List X)
items_read key read before zero bytes = Ok ([], bytes)
items_read key read before (suc n) bytes = do
  first ← read before bytes
  more ← items_read key read (Some (key first.0)) n first.1
  Ok (first.0 ∷ more.0, more.1)

-- a count, and that many items
abbrev pub counted_read : {K X : Type 0} → (X → K) → (Option K → List ℕ → Read X) → List ℕ → Read (List X)
counted_read key read bytes = do
  n ← field (count_at bytes)
  items_read key read None n.0 n.1

-- a count of at most 256
abbrev pub few_count_read : List ℕ → Read ℕ
few_count_read bytes = do
  n ← field (count_at bytes)
  require (not (nat_lt 256 n.0)) TooLarge n

-- a count of at most 256, and that many items
abbrev pub few_read : {K X : Type 0} → (X → K) → (Option K → List ℕ → Read X) → List ℕ → Read (List X)
few_read key read bytes = do
  n ← few_count_read bytes
  items_read key read None n.0 n.1

-- the key of an item that is its own key
abbrev pub itself : {X : Type 0} → X → X
itself x = x

-- a reader in the code returns what the definition has, or an allocation fails
abbrev pub Reads : {X A : Type 0} → (X → A) → Result X TxFault → Result A TxFault → Type 0
Reads view (Ok x) outcome = outcome ≡ Ok (view x)
Reads view (Err e) outcome = e ≢ NoMemory → outcome ≡ Err e

-- ---- parts

unfoldable pub ref_read : List ℕ → Read OutRef
ref_read bytes = do
  id ← field (run_at 32 bytes)
  index ← field (count_at id.1)
  Ok (record { id = id.0; index = index.0 }, index.1)

unfoldable pub script_read : List ℕ → Read (List ℕ)
script_read bytes = do
  text ← field (sized_at bytes)
  require (is_ok (script_of text.0)) BadScript text

unfoldable pub data_read : List ℕ → Read (List ℕ)
data_read bytes = do
  text ← field (sized_at bytes)
  require (is_ok (datum_of text.0)) BadData text

-- the order is checked before the validator is read
unfoldable pub input_read : Option OutRef → List ℕ → Read Input
input_read before bytes = do
  from ← ref_read bytes
  next ← require (follows ref_cmp before from.0) NotRising from
  validator ← script_read next.1
  datum ← data_read validator.1
  redeemer ← data_read datum.1
  Ok (record { from = next.0; validator = validator.0; datum = datum.0; redeemer = redeemer.0 }, redeemer.1)

-- the first check is that a reference is greater than the one before it, the second that it is no input
unfoldable pub reference_read : List Input → Option OutRef → List ℕ → Read OutRef
reference_read inputs before bytes = do
  r ← ref_read bytes
  next ← require (follows ref_cmp before r.0) NotRising r
  require (not (spends inputs next.0)) ReferenceSpent next

unfoldable pub byte_read : List ℕ → Read ℕ
byte_read [] = Err Truncated
byte_read (b ∷ bytes) = Ok (b, bytes)

-- a name that is too long is reported before it is read, and everything else after the whole entry
unfoldable pub entry_read : Option Token → List ℕ → Read TokenEntry
entry_read before bytes = do
  policy ← field (run_at 32 bytes)
  len ← byte_read policy.1
  short ← require (not (nat_lt 32 len.0)) BadBundle len
  name ← field (run_at short.0 short.1)
  quantity ← field (number_at name.1)
  require (is_none (entry_fault before (record { policy = policy.0; name = name.0 }, quantity.0))) BadBundle
      ((record { policy = policy.0; name = name.0 }, quantity.0), quantity.1)

unfoldable pub bundle_read : List ℕ → Read (List TokenEntry)
bundle_read bytes = counted_read (λ e. e.0) entry_read bytes

-- outputs may have any order
unfoldable pub output_read : Option Output → List ℕ → Read Output
output_read before bytes = do
  address ← field (run_at 32 bytes)
  datum_hash ← field (run_at 32 address.1)
  value ← bundle_read datum_hash.1
  Ok (record { address = address.0; datum_hash = datum_hash.0; value = value.0 }, value.1)

-- the first tick and the last
unfoldable pub interval_read : List ℕ → Read (ℕ × ℕ)
interval_read bytes = do
  from ← field (unsigned_at bytes)
  to ← field (unsigned_at from.1)
  require (not (nat_lt to.0 from.0)) BadInterval ((from.0, to.0), to.1)

-- the order is checked after the script
unfoldable pub policy_read : Option (List ℕ) → List ℕ → Read (List ℕ)
policy_read before bytes = do
  script ← script_read bytes
  require (follows script_cmp before script.0) NotRising script

unfoldable pub signature_read : Option Signature → List ℕ → Read Signature
signature_read before bytes = do
  key ← field (run_at 32 bytes)
  sig ← field (run_at 64 key.1)
  require (follows signature_cmp before (record { key = key.0; sig = sig.0 })) NotRising (record { key = key.0; sig = sig.0 }, sig.1)

-- ---- the whole

-- version 1 or 2
unfoldable pub version_read : List ℕ → Read ℕ
version_read bytes = do
  version ← byte_read bytes
  if nat_eq version.0 1 then Ok version else require (nat_eq version.0 2) BadVersion version

-- format 1 has no references, and format 2 has at least one
unfoldable pub references_read : ℕ → List Input → List ℕ → Read (List OutRef)
references_read version inputs bytes =
    if nat_eq version 1 then Ok ([], bytes) else do
      n ← field (count_at bytes)
      some ← require (nat_lt 0 n.0) NoReferences n
      few ← require (not (nat_lt 256 some.0)) TooLarge some
      items_read itself (reference_read inputs) None few.0 few.1

-- nothing may follow
abbrev pub whole : {A : Type 0} → A × List ℕ → Result A TxFault
whole (x, []) = Ok x
whole (x, b ∷ bytes) = Err Trailing

-- everything before the signatures, without signatures
unfoldable pub body_read : List ℕ → Read Transaction
body_read bytes = do
  version ← version_read bytes
  inputs ← few_read (λ i. i.from) input_read version.1
  references ← references_read version.0 inputs.0 inputs.1
  outputs ← few_read itself output_read references.1
  interval ← interval_read outputs.1
  forge ← bundle_read interval.1
  scripts ← counted_read itself policy_read forge.1
  Ok (
    record {
      inputs = inputs.0;
      references = references.0;
      outputs = outputs.0;
      from = interval.0.0;
      to = interval.0.1;
      forge = forge.0;
      scripts = scripts.0;
      signatures = [];
    },
    scripts.1,
  )

-- the transaction that the bytes spell, or the first fault; bytes that are too long aren't read
unfoldable pub transaction_of : List ℕ → Result Transaction TxFault
transaction_of bytes =
    if nat_lt 16384 (length bytes) then Err TooLarge else do
      unsigned ← body_read bytes
      signatures ← counted_read itself signature_read unsigned.1
      whole (record unsigned.0 { signatures = signatures.0 }, signatures.1)
