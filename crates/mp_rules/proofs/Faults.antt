-- The fault of each rule, and what it says of the rule.
use Rattle.std.proofs.Common.{◌≡◌, ◌≢◌, ◌⊎◌, inl, inr, ℕ, ◌<◌, ◌≤◌, pos, ◌≤ℤ◌, ℤ, Bool, true, false, cond, not, ◌||◌, List, [], ◌∷◌, length, refl, ap, subst, arith}
use Rattle.std.specs.Prelude.{◌==◌, Option, None, Some, All, IsSome, IsTrue, Decides, is_some, nat_lt, int_lt, option_map}
use Rattle.std.specs.List.{find, position, range_with_len, AllByRecursion}
use Rattle.std.specs.Cmp.Lexicographic.{bytes_decides}
use Rattle.std.proofs.lemmas.Int.{ints}
use Rattle.std.proofs.lemmas.Bool.Decides.{nat_tests}
use Rattle.sha2.specs.Sha256.{sha256}
use Rattle.mp_bundle.specs.declared.token.Token.{Token}
use Rattle.mp_bundle.specs.Bundle.{TokenEntry, IsBundle}
use Rattle.mp_tx.specs.declared.input.Input.{Input}
use Rattle.mp_tx.specs.declared.output.Output.{Output}
use Rattle.mp_tx.specs.declared.reference.OutRef.{OutRef}
use Rattle.mp_tx.specs.declared.signature.Signature.{Signature}
use Rattle.mp_tx.specs.Transaction.{Transaction}
use Rattle.mp_tx.specs.Spelling.{id_of}
use Rattle.mp_utxo.specs.Apply.{Unspent, own_ref}
use Rattle.mp_rules.specs.declared.invalid.Invalid.{Invalid}
use Rattle.mp_rules.specs.declared.invalid.Invalid.TheVariants as rule
use Rattle.mp_rules.specs.Verifier.{Accepts}
use Rattle.mp_rules.specs.Resolved.{resolve, spendings, values}
use Rattle.mp_rules.specs.Scripts.{validator_accepts, policy_accepts}
use Rattle.mp_rules.specs.Validity.{Rule, HasInput, InInterval, OutputsNonnegative, InputsThere, ReferencesThere, AddressesMatch, DataMatch, OutputsFresh, PoliciesCarried, Balanced, SignaturesAccepted, ValidatorsAccept, PoliciesAccept, rules, IsNonnegative, Holds}
use Rattle.mp_rules.specs.FirstFault.{same_bytes, is_negative, first_unbalanced, token_unbalanced, no_inputs, outside_interval, negative_output, input_missing, reference_missing, address_mismatch, datum_mismatch, output_taken, forge_without_policy, unbalanced, bad_signature, validator_refused, policy_refused, fault_of, rule_of}
use Rattle.mp_rules.specs.Laws.{IsFirstBad, IsBroken}
use Rattle.mp_rules.proofs.Searching.{unmapped, mapped, Refutes, refutes, all_good, none_bad, first_bad, all_good_found, none_found, first_found, each_below, all_below, first_number, any_refutes}
use Rattle.mp_rules.proofs.Carried.{IsCarried, uncarried, uncarried_refutes, is_least}
use Rattle.mp_rules.proofs.Totals.{balanced, none_unbalanced, is_unbalanced}

-- ---- tests

missed : {A : Type 0} (b : Bool) (x : A) → cond b (Some x) None ≡ None → b ≡ false
missed true x e = Prim.cc
missed false x e = refl

told : {A : Type 0} (b : Bool) (x y : A) → cond b (Some x) None ≡ Some y → (b ≡ true) × (x ≡ y)
told true x y e = (refl, Prim.cc)
told false x y e = Prim.cc

is_true_Decides : (b : Bool) → Decides b (b ≡ true)
is_true_Decides b = (λ e. e, λ e. e)

empty : {X : Type 0} (xs : List X) → (length xs == 0) ≡ true → xs ≡ []
empty [] e = refl
empty (x ∷ xs) e = absurd (grind (arith, nat_tests))

not_empty : {X : Type 0} (xs : List X) → xs ≢ [] → (length xs == 0) ≡ false
not_empty [] h = absurd (h refl)
not_empty (x ∷ xs) h = grind (arith, nat_tests)

some_input : {X : Type 0} (xs : List X) → (length xs == 0) ≡ false → xs ≢ []
some_input xs e none = let f = ap (λ ys. length ys == 0) none in Prim.cc

inside : (from to tick : ℕ) → (nat_lt tick from || nat_lt to tick) ≡ false → (from ≤ tick) × (tick ≤ to)
inside from to tick e = (grind (arith, nat_tests), grind (arith, nat_tests))

not_outside : (from to tick : ℕ) → (from ≤ tick) × (tick ≤ to) → (nat_lt tick from || nat_lt to tick) ≡ false
not_outside from to tick h = let a = h.0 in let b = h.1 in grind (arith, nat_tests)

outside : (from to tick : ℕ) → (nat_lt tick from || nat_lt to tick) ≡ true → (tick < from) ⊎ (to < tick)
outside from to tick e = elim (nat_lt tick from) as (λ v. nat_lt tick from ≡ v → (v || nat_lt to tick) ≡ true → (tick < from) ⊎ (to < tick)) [
  | true ↦ λ h e. inl (grind (arith, nat_tests))
  | false ↦ λ h e. inr (grind (arith, nat_tests))
] refl e

owed : (n : ℤ) → int_lt n (pos 0) ≡ true → pos 0 ≤ℤ n → ⊥
owed n e h = grind (arith, ints)

not_owed : (n : ℤ) → int_lt n (pos 0) ≡ false → pos 0 ≤ℤ n
not_owed n e = grind (arith, ints)

debt_refutes : Refutes (λ (o : Output). is_negative o.value) IsNonnegative
debt_refutes =
    let each : Refutes (λ (e : TokenEntry). int_lt e.1 (pos 0)) (λ (e : TokenEntry). pos 0 ≤ℤ e.1) = record { bad = λ e. owed e.1; good = λ e. not_owed e.1 } in
    let all = any_refutes (λ (e : TokenEntry). int_lt e.1 (pos 0)) (λ (e : TokenEntry). pos 0 ≤ℤ e.1) each in
    record { bad = λ o. all.bad o.value; good = λ o. all.good o.value }

taken_refutes : (u : Unspent) (t : Transaction) → Refutes (λ k. is_some (u (own_ref t k))) (λ k. u (own_ref t k) ≡ None)
taken_refutes u t = record { bad = λ k. bad (u (own_ref t k)); good = λ k. good (u (own_ref t k)) }
  where
    bad : (o : Option Output) → is_some o ≡ true → o ≡ None → ⊥
    bad None e none = let f = e in Prim.cc
    bad (Some x) e none = let f = none in Prim.cc

    good : (o : Option Output) → is_some o ≡ false → o ≡ None
    good None e = refl
    good (Some x) e = absurd (let f = e in Prim.cc)

there : (o : Option Output) → (o ≡ None → ⊥) → IsSome o
there None h = absurd (h refl)
there (Some x) h = refl

-- ---- what a fault says

-- if there is no fault, something holds, and conversely; else the fault says what is broken
pub record Tells (o : Option Invalid) (Held : Type 0) (Broken : Invalid → Type 0) : Type 0 where
  pub holds : o ≡ None → Held
  pub none : Held → o ≡ None
  pub broken : (fault : Invalid) → o ≡ Some fault → Broken fault

by_test : (b : Bool) (fault : Invalid) (Held : Type 0) (Broken : Invalid → Type 0) → (b ≡ false → Held) → (Held → b ≡ false) → (b ≡ true → Broken fault) → Tells (cond b (Some fault) None) Held Broken
by_test b fault Held Broken held none broken = record {
  holds = λ e. held (missed b fault e);
  none = λ h. ap (λ v. cond v (Some fault) None) (none h);
  broken = λ other e. let at = told b fault other e in subst Broken at.1 (broken at.0);
}

module _ {X : Type 0} (p : X → Bool) (Good : X → Type 0) (tells : Refutes p Good) (xs : List X) (Broken : Invalid → Type 0) where
  -- the first index that isn't good
  by_place : (name : ℕ → Invalid) → ((k : ℕ) → IsFirstBad Good xs k → Broken (name k)) → Tells (option_map name (position p xs)) (All Good xs) Broken
  by_place name broken = record {
    holds = λ e. all_good p Good tells xs (unmapped name (position p xs) e);
    none = λ h. ap (option_map name) (none_bad p Good tells xs h);
    broken = λ fault e.
        let at = mapped name (position p xs) fault e in
        subst Broken at.same (broken at.from (first_bad p Good tells xs at.from at.found));
  }

  -- the first item that isn't good
  by_item : (name : X → Invalid) → ((x : X) → find p xs ≡ Some x → Broken (name x)) → Tells (option_map name (find p xs)) (All Good xs) Broken
  by_item name broken = record {
    holds = λ e. all_good_found p Good tells xs (unmapped name (find p xs) e);
    none = λ h. ap (option_map name) (none_found p Good tells xs h);
    broken = λ fault e.
        let at = mapped name (find p xs) fault e in
        subst Broken at.same (broken at.from at.found);
  }

-- ---- the rules

module _ (accepts : Accepts) (u : Unspent) (tick : ℕ) (t : Transaction) where
  -- the fault belongs to the rule, which fails as the fault says
  pub record IsBrokenAt (r : Rule) (fault : Invalid) : Type 0 where
    pub broken : IsBroken accepts u tick t fault
    pub is_of : rule_of fault ≡ Some r

  -- what the fault of a rule says
  abbrev pub IsTold : Rule → Type 0
  IsTold r = Tells (fault_of accepts u tick t r) (Holds accepts u tick t r) (λ fault. IsBundle t.forge → IsBrokenAt r fault)

  has_input : IsTold HasInput
  unfolding no_inputs
  has_input = by_test (length t.inputs == 0) rule.NoInputs _ _ (some_input t.inputs) (not_empty t.inputs) (λ e is. record { broken = empty t.inputs e; is_of = refl })

  in_interval : IsTold InInterval
  unfolding outside_interval
  in_interval =
      by_test (nat_lt tick t.from || nat_lt t.to tick) rule.OutsideInterval _ _ (inside t.from t.to tick) (not_outside t.from t.to tick)
      (λ e is. record { broken = outside t.from t.to tick e; is_of = refl })

  pays_no_debt : IsTold OutputsNonnegative
  unfolding negative_output
  pays_no_debt = by_place _ IsNonnegative debt_refutes t.outputs _ rule.NegativeOutput (λ k first is. record { broken = first; is_of = refl })

  inputs_there : IsTold InputsThere
  unfolding input_missing
  inputs_there =
      by_place _ (λ i. IsSome (u i.from)) (refutes (λ (i : Input). is_some (u i.from)) _ (λ i. is_true_Decides (is_some (u i.from)))) t.inputs _ rule.InputMissing
      (λ k first is. record { broken = first; is_of = refl })

  references_there : IsTold ReferencesThere
  unfolding reference_missing
  references_there =
      by_place _ (λ r. IsSome (u r)) (refutes (λ (r : OutRef). is_some (u r)) _ (λ r. is_true_Decides (is_some (u r)))) t.references _ rule.ReferenceMissing
      (λ k first is. record { broken = first; is_of = refl })

  addresses_match : IsTold AddressesMatch
  unfolding address_mismatch
  addresses_match =
      by_place _ (λ (p : Input × Output). sha256 p.0.validator ≡ p.1.address)
      (refutes (λ (p : Input × Output). same_bytes (sha256 p.0.validator) p.1.address) _ (λ p. bytes_decides (sha256 p.0.validator) p.1.address))
      (spendings t (resolve u t)) _ rule.AddressMismatch (λ k first is. record { broken = first; is_of = refl })

  data_match : IsTold DataMatch
  unfolding datum_mismatch
  data_match =
      by_place _ (λ (p : Input × Output). sha256 p.0.datum ≡ p.1.datum_hash)
      (refutes (λ (p : Input × Output). same_bytes (sha256 p.0.datum) p.1.datum_hash) _ (λ p. bytes_decides (sha256 p.0.datum) p.1.datum_hash))
      (spendings t (resolve u t)) _ rule.DatumMismatch (λ k first is. record { broken = first; is_of = refl })

  outputs_fresh : IsTold OutputsFresh
  unfolding output_taken
  outputs_fresh =
      let own =
      by_place _ (λ k. u (own_ref t k) ≡ None) (taken_refutes u t) (range_with_len 0 (length t.outputs)) (λ fault. IsBundle t.forge → IsBrokenAt OutputsFresh fault) rule.OutputTaken
      (λ k first is.
      let at = first_number (λ k. u (own_ref t k) ≡ None) (length t.outputs) k first in
      record { broken = (at.within, there (u (own_ref t k)) at.bad, at.before); is_of = refl }) in
      record {
        holds = λ e. each_below (λ k. u (own_ref t k) ≡ None) (length t.outputs) (own.holds e);
        none = λ h. own.none (all_below (λ k. u (own_ref t k) ≡ None) (length t.outputs) h);
        broken = own.broken;
      }

  policies_carried : IsTold PoliciesCarried
  unfolding forge_without_policy
  policies_carried =
      by_item (uncarried t.scripts) (IsCarried t.scripts) (uncarried_refutes t.scripts) t.forge _ (λ e. rule.ForgeWithoutPolicy e.0.policy)
      (λ e found is. record { broken = is_least t.scripts t.forge e is found; is_of = refl })

  is_balanced : IsTold Balanced
  unfolding unbalanced
  is_balanced =
      let taken = t.forge ∷ values (resolve u t).spent in
      let paid = values t.outputs in
      let name : Token → Invalid = token_unbalanced taken paid in
      record {
        holds = λ e. none_unbalanced taken paid (unmapped name (first_unbalanced taken paid) e);
        none = λ h. ap (option_map name) (balanced taken paid h);
        broken = λ fault e is.
            let at = mapped name (first_unbalanced taken paid) fault e in
            subst (IsBrokenAt Balanced) at.same (record { broken = (is_unbalanced taken paid at.from at.found, refl, refl); is_of = refl });
      }

  signatures_accepted : IsTold SignaturesAccepted
  unfolding bad_signature
  signatures_accepted =
      let test : Signature → Bool = λ s. accepts s.key (id_of t) s.sig in
      let refuses = refutes test (λ s. IsTrue (test s)) (λ s. is_true_Decides (test s)) in
      by_item (λ s. not (test s)) (λ s. IsTrue (test s)) refuses t.signatures _ (λ s. rule.BadSignature s.key)
      (λ s found is.
      let at = first_found (λ s. not (test s)) (λ s. IsTrue (test s)) refuses t.signatures s found in
      record { broken = (at.place, at.first, λ d. ap (λ (s : Signature). s.key) (at.stands d)); is_of = refl })

  validators_accept : IsTold ValidatorsAccept
  unfolding validator_refused
  validators_accept =
      let test : Input × Output → Bool = λ p. validator_accepts t (resolve u t) p in
      by_place _ (λ p. IsTrue (test p)) (refutes test _ (λ p. is_true_Decides (test p))) (spendings t (resolve u t)) _ rule.ValidatorRefused
      (λ k first is. record { broken = first; is_of = refl })

  policies_accept : IsTold PoliciesAccept
  unfolding policy_refused
  policies_accept =
      let test : List ℕ → Bool = λ s. policy_accepts t (resolve u t) s in
      by_place _ (λ s. IsTrue (test s)) (refutes test _ (λ s. is_true_Decides (test s))) t.scripts _ rule.PolicyRefused
      (λ k first is. record { broken = first; is_of = refl })

  pub each_rule : (r : Rule) → IsTold r
  each_rule HasInput = has_input
  each_rule InInterval = in_interval
  each_rule OutputsNonnegative = pays_no_debt
  each_rule InputsThere = inputs_there
  each_rule ReferencesThere = references_there
  each_rule AddressesMatch = addresses_match
  each_rule DataMatch = data_match
  each_rule OutputsFresh = outputs_fresh
  each_rule PoliciesCarried = policies_carried
  each_rule Balanced = is_balanced
  each_rule SignaturesAccepted = signatures_accepted
  each_rule ValidatorsAccept = validators_accept
  each_rule PoliciesAccept = policies_accept

-- what holds of all listed rules holds of each rule
pub of_each : (P : Rule → Type 0) → AllByRecursion P rules → (r : Rule) → P r
of_each P all HasInput = all.0
of_each P all InInterval = all.1.0
of_each P all OutputsNonnegative = all.1.1.0
of_each P all InputsThere = all.1.1.1.0
of_each P all ReferencesThere = all.1.1.1.1.0
of_each P all AddressesMatch = all.1.1.1.1.1.0
of_each P all DataMatch = all.1.1.1.1.1.1.0
of_each P all OutputsFresh = all.1.1.1.1.1.1.1.0
of_each P all PoliciesCarried = all.1.1.1.1.1.1.1.1.0
of_each P all Balanced = all.1.1.1.1.1.1.1.1.1.0
of_each P all SignaturesAccepted = all.1.1.1.1.1.1.1.1.1.1.0
of_each P all ValidatorsAccept = all.1.1.1.1.1.1.1.1.1.1.1.0
of_each P all PoliciesAccept = all.1.1.1.1.1.1.1.1.1.1.1.1.0
