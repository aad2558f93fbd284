-- Drafts of transactions, and the transactions that they make.
use Rattle.std.specs.Prelude.{ℕ, ◌+◌, ◌-◌, ◌%◌, ◌^◌, ◌==◌, List, [], ◌∷◌, ◌++◌, map, replicate, is_none, Option, None, Some, option_map, option_and_then, unwrap_or, if◌then◌else◌}
use Rattle.mp_bundle.specs.Bundle.{TokenEntry}
use Rattle.mp_tx.specs.declared.reference.OutRef.{OutRef}
use Rattle.mp_tx.specs.declared.input.Input.{Input}
use Rattle.mp_tx.specs.declared.signature.Signature.{Signature}
use Rattle.mp_tx.specs.Reference.{ref_cmp}
use Rattle.mp_tx.specs.Transaction.{Transaction, script_cmp, signature_cmp}
use Rattle.mp_tx.specs.Spelling.{id_of}
use Rattle.mp_tx.specs.TxFault.{parts_fault}
use Rattle.mp_names.specs.declared.payment.Payment.{Payment}
use Rattle.mp_lines.specs.declared.fields.Field.{Field}
use Rattle.mp_lines.specs.declared.fields.Field.TheVariants.{Spends, LooksAt, Pays, From, To, Forges, Carries, Signs}
use Rattle.mp_lines.specs.declared.fields.Signer.{Signer}
use Rattle.mp_names.specs.Once.{set_once}
use Rattle.mp_names.specs.Rising.{input_cmp, insert_rising}
use Rattle.mp_names.specs.DeclaredTx.{DeclaredTx}
use Rattle.mp_names.specs.Names.{Names}
use Rattle.mp_names.specs.Payments.{output_of}
use Rattle.mp_lines.specs.Fields.{field_of}

-- inputs, references and policy scripts are strictly increasing; payments keep their order
pub record Draft : Type 0 where
  pub inputs : List Input
  pub references : List OutRef
  pub payments : List Payment
  pub from : Option ℕ
  pub to : Option ℕ
  pub forge : Option (List TokenEntry)
  pub scripts : List (List ℕ)
  pub signers : List Signer

abbrev pub empty_draft : Draft
empty_draft = record { inputs = []; references = []; payments = []; from = None; to = None; forge = None; scripts = []; signers = [] }

abbrev pub with_field : Draft → Field → Option Draft
with_field d (Spends i) = Some (record d { inputs = insert_rising input_cmp i d.inputs })
with_field d (LooksAt r) = Some (record d { references = insert_rising ref_cmp r d.references })
with_field d (Pays p) = Some (record d { payments = d.payments ++ p ∷ [] })
with_field d (From n) = option_map (λ x. record d { from = x }) (set_once d.from n)
with_field d (To n) = option_map (λ x. record d { to = x }) (set_once d.to n)
with_field d (Forges b) = option_map (λ x. record d { forge = x }) (set_once d.forge b)
with_field d (Carries s) = Some (record d { scripts = insert_rising script_cmp s d.scripts })
with_field d (Signs s) = Some (record d { signers = d.signers ++ s ∷ [] })

-- if all words are fields
abbrev pub draft_of : Names → Draft → List (List ℕ) → Option Draft
draft_of names d [] = Some d
draft_of names d (word ∷ words) = option_and_then (λ f. option_and_then (λ e. draft_of names e words) (with_field d f)) (field_of names word)

-- valid at any tick that isn't excluded; forging nothing by default
abbrev pub transaction_of : Draft → List Signature → Transaction
transaction_of d signatures = record {
  inputs = d.inputs;
  references = d.references;
  outputs = map output_of d.payments;
  from = unwrap_or d.from 0;
  to = unwrap_or d.to (2 ^ 64 - 1);
  forge = unwrap_or d.forge [];
  scripts = d.scripts;
  signatures = signatures;
}

-- the byte with its lowest bit flipped
abbrev pub flip : ℕ → ℕ
flip k = if k % 2 == 0 then k + 1 else k - 1

-- the first byte of a signature: that of the key, or another one if it is bad
abbrev pub first_byte : Signer → ℕ
first_byte s = if s.is_good then s.key else flip s.key

-- a key is 32 bytes that all have its number; its good signature is the key and then the id
unfoldable pub signature_of : List ℕ → Signer → Signature
signature_of id s = record { key = replicate 32 s.key; sig = first_byte s ∷ replicate 31 s.key ++ id }

-- the signatures, in strictly increasing order
abbrev pub signatures_of : List ℕ → List Signature → List Signer → List Signature
signatures_of id done [] = done
signatures_of id done (s ∷ signers) = signatures_of id (insert_rising signature_cmp (signature_of id s) done) signers

-- a transaction may have these parts
abbrev pub if_fits : Transaction → Option Transaction
if_fits t = if is_none (parts_fault t) then Some t else None

-- with signatures of the id of the unsigned transaction
abbrev pub signed : Draft → Transaction → Option Transaction
signed d t = if_fits (transaction_of d (signatures_of (id_of t) [] d.signers))

-- what is declared, after the unsigned transaction was made for its id
abbrev pub declare_signed : Draft → Transaction → Option DeclaredTx
declare_signed d t = option_map (λ s. record { tx = s; payments = d.payments }) (signed d t)

unfoldable pub declared_of : Draft → Option DeclaredTx
declared_of d = option_and_then (declare_signed d) (if_fits (transaction_of d []))
