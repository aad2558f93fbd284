-- Which parts a transaction may have, and which bytes spell one.
use Rattle.std.specs.Prelude.{◌≡◌, ℕ, ◌<◌, ◌≤◌, ◌^◌, List, length, IsTrue}
use Rattle.std.specs.List.{AllByRecursion}
use Rattle.mp_bundle.specs.Bundle.{TokenEntry, IsBundle}
use Rattle.mp_script.specs.Datum.{IsDatum}
use Rattle.mp_script.specs.Script.{IsScript}
use Rattle.mp_tx.specs.declared.reference.OutRef.{OutRef}
use Rattle.mp_tx.specs.declared.input.Input.{Input}
use Rattle.mp_tx.specs.declared.output.Output.{Output}
use Rattle.mp_tx.specs.declared.signature.Signature.{Signature}
use Rattle.mp_tx.specs.Reference.{ref_cmp}
use Rattle.mp_tx.specs.Rising.{rises}
use Rattle.mp_tx.specs.Transaction.{Transaction, spent_refs, script_cmp, signature_cmp, spends_none}
use Rattle.mp_tx.specs.Spelling.{spelling, size_of}

-- an id of 32 bytes, and an index of 2
pub record IsRef (r : OutRef) : Type 0 where
  pub id : length r.id ≡ 32
  pub index : r.index < 2 ^ 16

-- bytes whose length fits 2 bytes, and which are a script or a datum
pub record IsSized (Whole : List ℕ → Type 0) (bytes : List ℕ) : Type 0 where
  pub whole : Whole bytes
  pub short : length bytes < 2 ^ 16

pub record IsInput (i : Input) : Type 0 where
  pub from : IsRef i.from
  pub validator : IsSized IsScript i.validator
  pub datum : IsSized IsDatum i.datum
  pub redeemer : IsSized IsDatum i.redeemer

-- a bundle whose number of entries fits 2 bytes, each with a policy of 32 bytes
pub record IsValue (entries : List TokenEntry) : Type 0 where
  pub bundle : IsBundle entries
  pub few : length entries < 2 ^ 16
  pub policies : AllByRecursion (λ e. length e.0.policy ≡ 32) entries

pub record IsOutput (o : Output) : Type 0 where
  pub address : length o.address ≡ 32
  pub datum_hash : length o.datum_hash ≡ 32
  pub value : IsValue o.value

pub record IsSignature (s : Signature) : Type 0 where
  pub key : length s.key ≡ 32
  pub sig : length s.sig ≡ 64

-- each part is valid by itself
pub record AreParts (t : Transaction) : Type 0 where
  pub inputs : AllByRecursion IsInput t.inputs
  pub references : AllByRecursion IsRef t.references
  pub outputs : AllByRecursion IsOutput t.outputs
  pub from : t.from < 2 ^ 64
  pub to : t.to < 2 ^ 64
  pub forge : IsValue t.forge
  pub scripts : AllByRecursion (IsSized IsScript) t.scripts
  pub few_scripts : length t.scripts < 2 ^ 16
  pub signatures : AllByRecursion IsSignature t.signatures
  pub few_signatures : length t.signatures < 2 ^ 16

-- the parts are valid together
pub record IsTransaction (t : Transaction) : Type 0 where
  pub inputs_rise : IsTrue (rises ref_cmp (spent_refs t.inputs))
  pub references_rise : IsTrue (rises ref_cmp t.references)
  pub scripts_rise : IsTrue (rises script_cmp t.scripts)
  pub signatures_rise : IsTrue (rises signature_cmp t.signatures)
  -- nothing is both spent and read
  pub unspent : IsTrue (spends_none t.inputs t.references)
  pub interval : t.from ≤ t.to
  pub few_inputs : length t.inputs ≤ 256
  pub few_references : length t.references ≤ 256
  pub few_outputs : length t.outputs ≤ 256
  pub small : size_of t ≤ 16384

-- the bytes spell the transaction
pub record Spells (bytes : List ℕ) (t : Transaction) : Type 0 where
  pub parts : AreParts t
  pub fits : IsTransaction t
  pub spelled : bytes ≡ spelling t
