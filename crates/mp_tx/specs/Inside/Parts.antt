-- What the types of parts guarantee by themselves. Their numbers and lengths aren't among it.
use Rattle.std.specs.Prelude.{◌≡◌, ◌<◌, ◌^◌, List, length}
use Rattle.std.specs.List.{All}
use Rattle.mp_bundle.specs.Bundle.{TokenEntry, IsBundle}
use Rattle.mp_script.specs.Datum.{IsDatum}
use Rattle.mp_script.specs.Script.{IsScript}
use Rattle.mp_tx.specs.declared.input.Input.{Input}
use Rattle.mp_tx.specs.declared.output.Output.{Output}
use Rattle.mp_tx.specs.Transaction.{Transaction}
use Rattle.mp_tx.specs.Parts.{IsRef, IsSignature}

pub record IsTypedInput (i : Input) : Type 0 where
  pub from : IsRef i.from
  pub validator : IsScript i.validator
  pub datum : IsDatum i.datum
  pub redeemer : IsDatum i.redeemer

pub record IsTypedValue (entries : List TokenEntry) : Type 0 where
  pub bundle : IsBundle entries
  pub policies : All (λ e. length e.0.policy ≡ 32) entries

pub record IsTypedOutput (o : Output) : Type 0 where
  pub address : length o.address ≡ 32
  pub datum_hash : length o.datum_hash ≡ 32
  pub value : IsTypedValue o.value

pub record AreTyped (t : Transaction) : Type 0 where
  pub inputs : All IsTypedInput t.inputs
  pub references : All IsRef t.references
  pub outputs : All IsTypedOutput t.outputs
  pub from : t.from < 2 ^ 64
  pub to : t.to < 2 ^ 64
  pub forge : IsTypedValue t.forge
  pub scripts : All IsScript t.scripts
  pub signatures : All IsSignature t.signatures
