-- What the names of a scenario denote.
use Rattle.std.specs.Prelude.{ℕ, ◌+◌, ◌&&◌, ◌++◌, Bool, false, not, nat_eq, nat_le, List, [], ◌∷◌, length, find, filter, codes, is_none, Option, None, Some, option_map, option_and_then, unwrap_or, replicate, if◌then◌else◌}
use Rattle.std.specs.Option.{option_or, option_map_or}
use Rattle.std.specs.List.{list_any}
use Rattle.std.specs.FinMap.{get, insert, retain_keys}
use Rattle.std.specs.FinMap as finite
use Rattle.std.specs.Cmp.Lexicographic.{pointwise}
use Rattle.sha2.specs.Sha256.{sha256}
use Rattle.mp_text.specs.Names.{is_name}
use Rattle.mp_tx.specs.Spelling.{id_of}
use Rattle.mp_names.specs.declared.names.Binding.{Binding}
use Rattle.mp_names.specs.declared.names.Binding.TheVariants.{Opening, Made}
use Rattle.mp_names.specs.declared.names.NamedBinding.{NamedBinding}
use Rattle.mp_names.specs.declared.names.NamedScript.{NamedScript}
use Rattle.mp_names.specs.declared.names.NamedDatum.{NamedDatum}
use Rattle.mp_names.specs.DeclaredTx.{DeclaredTx}
use Rattle.mp_names.specs.Reported.{Reported}

pub record Names : Type 0 where
  -- outputs and transactions share one set of names
  pub bindings : List NamedBinding
  -- the name under which a transaction is reported, by its id
  pub reported : Reported
  pub scripts : List NamedScript
  pub datums : List NamedDatum
  -- whether answers report transactions by their ids
  pub by_id : Bool

-- what the word denotes, if it is declared
abbrev pub binding_named : List ℕ → Names → Option Binding
binding_named word names = option_map (λ n. n.binding) (find (λ n. pointwise nat_eq word n.name) names.bindings)

abbrev pub script_named : List ℕ → Names → Option (List ℕ)
script_named word names = option_map (λ n. n.script) (find (λ n. pointwise nat_eq word n.name) names.scripts)

abbrev pub datum_named : List ℕ → Names → Option (List ℕ)
datum_named word names = option_map (λ n. n.datum) (find (λ n. pointwise nat_eq word n.name) names.datums)

abbrev pub bound_tx : Binding → Option DeclaredTx
bound_tx (Opening r p) = None
bound_tx (Made t) = Some t

-- the transaction that the word denotes, if it denotes one
abbrev pub tx_named : List ℕ → Names → Option DeclaredTx
tx_named word names = option_and_then bound_tx (binding_named word names)

-- a name that no output and no transaction has
abbrev pub is_new_binding : List ℕ → Names → Bool
is_new_binding word names = is_name word && is_none (binding_named word names)

-- `coin` can't be the name of a script
abbrev pub is_new_script : List ℕ → Names → Bool
is_new_script word names = is_name word && not (pointwise nat_eq word (codes "coin")) && is_none (script_named word names)

abbrev pub is_new_datum : List ℕ → Names → Bool
is_new_datum word names = is_name word && is_none (datum_named word names)

-- the scripts that are true and false, and the datum that is an empty list
abbrev pub first_names : Names
first_names = record {
  bindings = [];
  reported = finite.empty;
  scripts = record { name = codes "yes"; script = 1 ∷ [] } ∷ record { name = codes "no"; script = 0 ∷ [] } ∷ [];
  datums = record { name = codes "unit"; datum = 3 ∷ 0 ∷ 0 ∷ [] } ∷ [];
  by_id = false;
}

abbrev pub with_binding : Names → NamedBinding → Names
with_binding names named = record names { bindings = names.bindings ++ named ∷ [] }

abbrev pub with_script : Names → NamedScript → Names
with_script names named = record names { scripts = names.scripts ++ named ∷ [] }

abbrev pub with_datum : Names → NamedDatum → Names
with_datum names named = record names { datums = names.datums ++ named ∷ [] }

-- whether this many names are declared, apart from `yes`, `no` and `unit`
abbrev pub has_many : Names → ℕ → Bool
has_many names most = nat_le (most + 3) (length names.bindings + length names.scripts + length names.datums)

-- from then on answers report transactions by their ids, or not
abbrev pub reporting_by_id : Names → Bool → Names
reporting_by_id names by_id = record names { by_id = by_id }

-- whether the name is one of these
abbrev pub is_among : List (List ℕ) → List ℕ → Bool
is_among names name = list_any (λ n. pointwise nat_eq name n) names

-- the transactions that are reported under none of these names
abbrev pub reported_left : List (List ℕ) → Reported → Reported
reported_left goes reported = retain_keys reported (λ id. not (option_map_or (is_among goes) (get reported id) false))

-- without the outputs and transactions with these names; the others keep their order
abbrev pub without_bindings : Names → List (List ℕ) → Names
without_bindings names goes = record names {
  bindings = filter (λ n. not (is_among goes n.name)) names.bindings;
  reported = reported_left goes names.reported;
}

abbrev pub reported_with : Reported → List ℕ → Option DeclaredTx → Reported
reported_with reported word None = reported
reported_with reported word (Some t) = insert reported (id_of t.tx) word

-- if the word denotes a transaction, that is now reported under it
abbrev pub with_reported : Names → List ℕ → Names
with_reported names word = record names { reported = reported_with names.reported word (tx_named word names) }

abbrev pub has_id : List ℕ → Binding → Bool
has_id id (Opening r p) = false
has_id id (Made t) = pointwise nat_eq id (id_of t.tx)

abbrev pub has_hash : List ℕ → List ℕ → Bool
has_hash hash script = pointwise nat_eq hash (sha256 script)

-- the name of the first transaction declared with this id, if there is one
abbrev pub first_name_of : List ℕ → Names → Option (List ℕ)
first_name_of id names = option_map (λ n. n.name) (find (λ n. has_id id n.binding) names.bindings)

-- the name under which the transaction is reported; without one, the first name declared for it
abbrev pub name_of : List ℕ → Names → List ℕ
name_of id names = unwrap_or (option_or (get names.reported id) (first_name_of id names)) []

-- the policy of coin is zeros; any other has the name of the first script with that hash
abbrev pub policy_name : List ℕ → Names → List ℕ
policy_name policy names =
    if pointwise nat_eq policy (replicate 32 0) then codes "coin"
    else unwrap_or (option_map (λ n. n.name) (find (λ n. has_hash policy n.script) names.scripts)) []
