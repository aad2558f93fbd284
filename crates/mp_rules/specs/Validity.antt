-- When a transaction is valid on the outputs that can be spent (the EUTXO and native-token papers of Chakravarty et
-- al., and CIP-31).
use Rattle.std.specs.Prelude.{◌≡◌, ◌≢◌, ℕ, ◌<◌, ◌≤◌, pos, ◌≤ℤ◌, List, [], ◌∷◌, length, map, All, Contains, None, IsSome, IsTrue}
use Rattle.sha2.specs.Sha256.{sha256}
use Rattle.mp_bundle.specs.declared.token.Token.{Token}
use Rattle.mp_bundle.specs.Sum.{total_over}
use Rattle.mp_tx.specs.declared.output.Output.{Output}
use Rattle.mp_tx.specs.Transaction.{Transaction}
use Rattle.mp_tx.specs.Spelling.{id_of}
use Rattle.mp_utxo.specs.Apply.{Unspent, apply, own_ref}
use Rattle.mp_rules.specs.Verifier.{Accepts}
use Rattle.mp_rules.specs.Resolved.{Resolved, resolve, spendings, values}
use Rattle.mp_rules.specs.Scripts.{validator_accepts, policy_accepts}

-- no quantity is negative
abbrev pub IsNonnegative : Output → Type 0
IsNonnegative o = All (λ e. pos 0 ≤ℤ e.1) o.value

-- for each token, the quantities forged and spent add up to the quantity paid
abbrev pub IsBalanced : Transaction → Resolved → Type 0
IsBalanced t r =
    (token : Token) → total_over (t.forge ∷ values r.spent) token ≡ total_over (values t.outputs) token

pub data Rule : Type 0 where
  HasInput : Rule
  InInterval : Rule
  OutputsNonnegative : Rule
  InputsThere : Rule
  ReferencesThere : Rule
  AddressesMatch : Rule
  DataMatch : Rule
  OutputsFresh : Rule
  PoliciesCarried : Rule
  Balanced : Rule
  SignaturesAccepted : Rule
  ValidatorsAccept : Rule
  PoliciesAccept : Rule

-- All rules, in the order of the checks. Each is checked at all indices before the next.
abbrev pub rules : List Rule
rules =
    HasInput
    ∷ InInterval
    ∷ OutputsNonnegative
    ∷ InputsThere
    ∷ ReferencesThere
    ∷ AddressesMatch
    ∷ DataMatch
    ∷ OutputsFresh
    ∷ PoliciesCarried
    ∷ Balanced
    ∷ SignaturesAccepted
    ∷ ValidatorsAccept
    ∷ PoliciesAccept
    ∷ []

-- What a rule asks for.
pub data Condition : Type 1 where
  -- something of the transaction alone
  OfTransaction : (Transaction → Type 0) → Condition
  -- something of it at a tick
  AtTick : (ℕ → Transaction → Type 0) → Condition
  -- something of it, given the outputs that it spends and reads
  OfResolved : (Transaction → Resolved → Type 0) → Condition
  -- something of it on the map of the outputs that can be spent
  OnMap : (Unspent → Transaction → Type 0) → Condition
  -- something of it for a verifier
  OfVerifier : (Accepts → Transaction → Type 0) → Condition

-- A row of the table of rules.
pub record Row : Type 1 where
  -- the numbers follow the order of the checks; 1 is an allocation failure
  pub number : ℕ
  pub asks : Condition

-- The table of rules.
abbrev pub row : Rule → Row
-- there is an input
row HasInput = record { number = 2; asks = OfTransaction (λ t. t.inputs ≢ []) }
-- the tick is neither before the first nor after the last tick of its validity interval
row InInterval = record { number = 3; asks = AtTick (λ tick t. (t.from ≤ tick) × (tick ≤ t.to)) }
-- no output has a negative quantity of a token
row OutputsNonnegative = record { number = 4; asks = OfTransaction (λ t. All IsNonnegative t.outputs) }
-- each input leads to an output that can be spent
row InputsThere = record { number = 5; asks = OnMap (λ u t. All (λ i. IsSome (u i.from)) t.inputs) }
-- each reference leads to an output that can be spent
row ReferencesThere = record { number = 6; asks = OnMap (λ u t. All (λ r. IsSome (u r)) t.references) }
-- the address of each input's output is the hash of the input's validator
row AddressesMatch = record {
  number = 7;
  asks = OfResolved (λ t r. All (λ p. sha256 p.0.validator ≡ p.1.address) (spendings t r));
}
-- the datum hash of each input's output is the hash of the input's datum
row DataMatch = record {
  number = 8;
  asks = OfResolved (λ t r. All (λ p. sha256 p.0.datum ≡ p.1.datum_hash) (spendings t r));
}
-- none of its own outputs is there yet
row OutputsFresh = record {
  number = 9;
  asks = OnMap (λ u t. (k : ℕ) → k < length t.outputs → u (own_ref t k) ≡ None);
}
-- the policy script of each forged token is carried
row PoliciesCarried = record {
  number = 10;
  asks = OfTransaction (λ t. All (λ e. Contains (map sha256 t.scripts) e.0.policy) t.forge);
}
-- it pays exactly what it spends and forges
row Balanced = record { number = 11; asks = OfResolved IsBalanced }
-- the verifier accepts each signature
row SignaturesAccepted = record {
  number = 12;
  asks = OfVerifier (λ accepts t. All (λ s. IsTrue (accepts s.key (id_of t) s.sig)) t.signatures);
}
-- each validator accepts
row ValidatorsAccept = record {
  number = 13;
  asks = OfResolved (λ t r. All (λ p. IsTrue (validator_accepts t r p)) (spendings t r));
}
-- each carried policy script accepts, even if its policy forges nothing
row PoliciesAccept = record {
  number = 14;
  asks = OfResolved (λ t r. All (λ s. IsTrue (policy_accepts t r s)) t.scripts);
}

-- a condition holds of a transaction, for a verifier, at a tick, on the outputs that can be spent
abbrev pub Meets : Accepts → Unspent → ℕ → Transaction → Condition → Type 0
Meets accepts u tick t (OfTransaction Is) = Is t
Meets accepts u tick t (AtTick Is) = Is tick t
Meets accepts u tick t (OfResolved Is) = Is t (resolve u t)
Meets accepts u tick t (OnMap Is) = Is u t
Meets accepts u tick t (OfVerifier Is) = Is accepts t

-- A rule holds of a transaction, for a verifier, at a tick, on the outputs that can be spent.
abbrev pub Holds : Accepts → Unspent → ℕ → Transaction → Rule → Type 0
Holds accepts u tick t rule = Meets accepts u tick t (row rule).asks

-- all rules hold
abbrev pub IsValid : Accepts → Unspent → ℕ → Transaction → Type 0
IsValid accepts u tick t = (rule : Rule) → Holds accepts u tick t rule

-- each transaction is valid after all before it
abbrev pub Chain : Accepts → Unspent → ℕ → List Transaction → Type 0
Chain accepts u tick [] = Unit {0}
Chain accepts u tick (t ∷ ts) = IsValid accepts u tick t × Chain accepts (apply t u) tick ts
