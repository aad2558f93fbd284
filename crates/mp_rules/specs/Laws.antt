-- The relation between validity and the first fault.
use Rattle.std.specs.Prelude.{◌≡◌, ◌≢◌, ◌↔◌, ◌⊎◌, ℕ, ◌<◌, ◌≤◌, List, [], ◌∷◌, ◌++◌, length, map, take, All, Contains, HoldsAt, None, Some, IsSome, IsTrue}
use Rattle.std.specs.Cmp.Lexicographic.{slice_cmp}
use Rattle.std.specs.Ordering.{nat_cmp}
use Rattle.std.specs.declared.cmp.Ordering.TheVariants.{Less}
use Rattle.sha2.specs.Sha256.{sha256}
use Rattle.mp_bundle.specs.declared.token.Token.{Token}
use Rattle.mp_bundle.specs.Token.{token, token_cmp}
use Rattle.mp_bundle.specs.Bundle.{TokenEntry, IsBundle}
use Rattle.mp_bundle.specs.Sum.{total_over}
use Rattle.mp_tx.specs.Transaction.{Transaction}
use Rattle.mp_tx.specs.Spelling.{id_of}
use Rattle.mp_utxo.specs.Apply.{Unspent, own_ref}
use Rattle.mp_rules.specs.declared.invalid.Invalid.{Invalid}
use Rattle.mp_rules.specs.declared.invalid.Invalid.TheVariants as rule
use Rattle.mp_rules.specs.Verifier.{Accepts}
use Rattle.mp_rules.specs.Resolved.{resolve, spendings, values}
use Rattle.mp_rules.specs.Scripts.{validator_accepts, policy_accepts}
use Rattle.mp_rules.specs.Validity.{Rule, rules, IsNonnegative, Holds, IsValid}
use Rattle.mp_rules.specs.FirstFault.{rule_of, first_fault}

-- the first item that isn't good is at the index
pub record IsFirstBad {X : Type 0} (Good : X → Type 0) (xs : List X) (place : ℕ) : Type 0 where
  -- the index is in range
  pub within : place < length xs
  pub bad : HoldsAt (λ x. Good x → ⊥) xs place
  -- all before it are good
  pub before : All Good (take place xs)

-- of a bundle's policies, the least without a script among these
pub record IsLeastUncarried (scripts : List (List ℕ)) (forge : List TokenEntry) (policy : List ℕ) : Type 0 where
  pub forged : Contains (map (λ e. e.0.policy) forge) policy
  pub absent : Contains (map sha256 scripts) policy → ⊥
  pub least : All (λ e. slice_cmp nat_cmp e.0.policy policy ≡ Less → Contains (map sha256 scripts) e.0.policy) forge

-- the least token whose totals differ
pub record IsLeastUnbalanced (taken paid : List (List TokenEntry)) (token : Token) : Type 0 where
  pub differs : total_over taken token ≢ total_over paid token
  pub least : (other : Token) → token_cmp other token ≡ Less → total_over taken other ≡ total_over paid other

-- The rule of a fault fails as the fault says, and not at a lesser index.
abbrev pub IsBroken : Accepts → Unspent → ℕ → Transaction → Invalid → Type 0
IsBroken accepts u tick t rule.NoMemory = ⊥
IsBroken accepts u tick t rule.NoInputs = t.inputs ≡ []
IsBroken accepts u tick t rule.OutsideInterval = (tick < t.from) ⊎ (t.to < tick)
IsBroken accepts u tick t (rule.NegativeOutput k) = IsFirstBad IsNonnegative t.outputs k
IsBroken accepts u tick t (rule.InputMissing i) = IsFirstBad (λ input. IsSome (u input.from)) t.inputs i
IsBroken accepts u tick t (rule.ReferenceMissing r) = IsFirstBad (λ reference. IsSome (u reference)) t.references r
IsBroken accepts u tick t (rule.AddressMismatch i) =
    IsFirstBad (λ p. sha256 p.0.validator ≡ p.1.address) (spendings t (resolve u t)) i
IsBroken accepts u tick t (rule.DatumMismatch i) =
    IsFirstBad (λ p. sha256 p.0.datum ≡ p.1.datum_hash) (spendings t (resolve u t)) i
IsBroken accepts u tick t (rule.OutputTaken k) =
    (k < length t.outputs) × IsSome (u (own_ref t k)) × ((j : ℕ) → j < k → u (own_ref t j) ≡ None)
IsBroken accepts u tick t (rule.ForgeWithoutPolicy policy) = IsLeastUncarried t.scripts t.forge policy
IsBroken accepts u tick t (rule.Unbalanced policy name taken paid) =
    IsLeastUnbalanced (t.forge ∷ values (resolve u t).spent) (values t.outputs) (token policy name)
    × (taken ≡ total_over (t.forge ∷ values (resolve u t).spent) (token policy name))
    × (paid ≡ total_over (values t.outputs) (token policy name))
IsBroken accepts u tick t (rule.BadSignature key) =
    (i : ℕ) × IsFirstBad (λ s. IsTrue (accepts s.key (id_of t) s.sig)) t.signatures i × HoldsAt (λ s. s.key ≡ key) t.signatures i
IsBroken accepts u tick t (rule.ValidatorRefused i) =
    IsFirstBad (λ p. IsTrue (validator_accepts t (resolve u t) p)) (spendings t (resolve u t)) i
IsBroken accepts u tick t (rule.PolicyRefused j) =
    IsFirstBad (λ s. IsTrue (policy_accepts t (resolve u t) s)) t.scripts j

-- what a first fault says
pub record IsFirstFault (accepts : Accepts) (u : Unspent) (tick : ℕ) (t : Transaction) (fault : Invalid) : Type 0 where
  pub broken : IsBroken accepts u tick t fault
  -- its rule, and the rules before it and after it
  pub own : Rule
  pub is_own : rule_of fault ≡ Some own
  pub earlier : List Rule
  pub later : List Rule
  pub order : rules ≡ earlier ++ own ∷ later
  -- every rule before it holds
  pub hold : All (Holds accepts u tick t) earlier

-- a transaction is valid exactly when it has no first fault
abbrev pub ValidIsFaultless : Type 0
ValidIsFaultless =
    (accepts : Accepts) (u : Unspent) (tick : ℕ) (t : Transaction)
    → IsValid accepts u tick t ↔ (first_fault accepts u tick t ≡ None)

-- what the first fault says is true
abbrev pub FirstFaultIsBroken : Type 0
FirstFaultIsBroken =
    (accepts : Accepts) (u : Unspent) (tick : ℕ) (t : Transaction) (fault : Invalid) → IsBundle t.forge
    → first_fault accepts u tick t ≡ Some fault → IsFirstFault accepts u tick t fault

-- in both maps, the transaction finds the same at the references that it names and at those of its own outputs
pub record FindsTheSame (t : Transaction) (u v : Unspent) : Type 0 where
  pub inputs : All (λ i. u i.from ≡ v i.from) t.inputs
  pub references : All (λ r. u r ≡ v r) t.references
  pub own : (k : ℕ) → k < length t.outputs → u (own_ref t k) ≡ v (own_ref t k)

-- No other outputs matter, and of the tick only whether it is in the interval.
abbrev pub ValidityIsLocal : Type 0
ValidityIsLocal =
    (accepts : Accepts) (u v : Unspent) (tick later : ℕ) (t : Transaction)
    → FindsTheSame t u v → IsValid accepts u tick t → t.from ≤ later → later ≤ t.to → IsValid accepts v later t
