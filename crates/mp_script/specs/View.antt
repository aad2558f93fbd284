-- What a script sees when it runs.
use Rattle.std.specs.Prelude.{ℕ, ℤ, List, map, Option}
use Rattle.std.specs.Option.{option_map}
use Rattle.mp_bundle.specs.declared.token.Token.{Token}
use Rattle.mp_bundle.specs.Bundle.{TokenEntry}
use Rattle.mp_bundle.specs.Sum.{total_of}
use Rattle.mp_script.specs.declared.view.PaidTo as paid_to_code
use Rattle.mp_script.specs.declared.view.Referred as referred_code
use Rattle.mp_script.specs.declared.view.View as view_code
use Rattle.mp_script.specs.Datum.{Datum}
use Rattle.mp_script.specs.DataReading.{tree_of}

-- an output of the transaction
pub record PaidTo : Type 0 where
  pub address : List ℕ
  pub bundle : List TokenEntry

-- an output that a reference input names (CIP-31)
pub record Referred : Type 0 where
  pub address : List ℕ
  pub datum_hash : List ℕ
  pub bundle : List TokenEntry

-- the transaction, and the script's own part in it
pub record View : Type 0 where
  -- the hash of the script that runs
  pub own_hash : List ℕ
  -- of the output that the script locks; a policy script has none of these three
  pub datum : Option Datum
  pub redeemer : Option Datum
  pub own_value : Option (List TokenEntry)
  -- the first and the last tick of the validity interval
  pub from : ℕ
  pub to : ℕ
  -- the keys that have signed
  pub keys : List (List ℕ)
  -- the total of each token over all outputs that are spent
  pub spent : Token → ℤ
  pub forge : List TokenEntry
  pub outputs : List PaidTo
  pub references : List Referred

abbrev pub paid_to_of : paid_to_code.PaidTo → PaidTo
paid_to_of o = record { address = o.address.now; bundle = o.value.now }

abbrev pub referred_of : referred_code.Referred → Referred
referred_of o = record { address = o.address.now; datum_hash = o.datum_hash.now; bundle = o.value.now }

-- what contracts see of a view
abbrev pub view_of : view_code.View → View
view_of v = record {
  own_hash = v.own_hash.now;
  datum = option_map (λ d. tree_of d.now) v.datum;
  redeemer = option_map (λ d. tree_of d.now) v.redeemer;
  own_value = option_map (λ b. b.now) v.own_value;
  from = v.from;
  to = v.to;
  keys = v.keys.now;
  spent = total_of v.spent.now;
  forge = v.forge.now;
  outputs = map paid_to_of v.outputs.now;
  references = map referred_of v.references.now;
}
