-- The sequence of the rules is the sequence of the groups.
use Rattle.std.proofs.Common.{◌≡◌, ◌≢◌, ℕ, List, [], ◌∷◌, ◌++◌, refl, sym, ap, subst, ◌∙◌}
use Rattle.std.specs.Prelude.{Option, None, Some, Result, Ok, Err, IfErr, IsErrAnd}
use Rattle.mp_tx.specs.Transaction.{Transaction}
use Rattle.mp_utxo.specs.Apply.{Unspent}
use Rattle.mp_rules.specs.declared.invalid.Invalid.{Invalid}
use Rattle.mp_rules.specs.declared.invalid.Invalid.TheVariants as rule
use Rattle.mp_rules.specs.Verifier.{Accepts}
use Rattle.mp_rules.specs.Resolved.{Resolved, resolve}
use Rattle.mp_rules.specs.FirstFault.{bad_signature, validator_refused, policy_refused, first_of, first_fault, IsFaultOf}
use Rattle.mp_rules.specs.Checked.{script_refused}
use Rattle.mp_rules.specs.Inside.Groups.{own_faults, missing_faults, mismatch_faults, payment_faults, own_fault, missing, mismatch, payment_fault, fault_on_map}

-- a group may be replaced by its members
opened : (xs ys : List (Option Invalid)) → first_of (first_of xs ∷ ys) ≡ first_of (xs ++ ys)
opened [] ys = refl
opened (None ∷ xs) ys = opened xs ys
opened (Some fault ∷ xs) ys = refl

behind : (xs ys zs : List (Option Invalid)) → first_of ys ≡ first_of zs → first_of (xs ++ ys) ≡ first_of (xs ++ zs)
behind [] ys zs same = same
behind (None ∷ xs) ys zs same = behind xs ys zs same
behind (Some fault ∷ xs) ys zs same = refl

-- groups within a group, one after the other
regrouped : (ns ms fs ps : List (Option Invalid)) (one : Option Invalid) (ss : List (Option Invalid)) → first_of (first_of (first_of ns ∷ first_of ms ∷ first_of fs ∷ first_of ps ∷ []) ∷ one ∷ first_of ss ∷ []) ≡ first_of (ns ++ (ms ++ (fs ++ (ps ++ (one ∷ (ss ++ []))))))
regrouped ns ms fs ps one ss =
    let last : List (Option Invalid) = one ∷ first_of ss ∷ [] in
    let paid : List (Option Invalid) = ps ++ (one ∷ (ss ++ [])) in
    opened (first_of ns ∷ first_of ms ∷ first_of fs ∷ first_of ps ∷ []) last
    ∙ opened ns (first_of ms ∷ first_of fs ∷ first_of ps ∷ last)
    ∙ behind ns (first_of ms ∷ first_of fs ∷ first_of ps ∷ last) (ms ++ (fs ++ paid)) (
    opened ms (first_of fs ∷ first_of ps ∷ last)
    ∙ behind ms (first_of fs ∷ first_of ps ∷ last) (fs ++ paid) (
    opened fs (first_of ps ∷ last)
    ∙ behind fs (first_of ps ∷ last) paid (opened ps last ∙ behind ps last (one ∷ (ss ++ [])) (behind (one ∷ []) (first_of ss ∷ []) (ss ++ []) (opened ss [])))
    )
    )

pub grouped : (accepts : Accepts) (u : Unspent) (tick : ℕ) (t : Transaction) → first_of (fault_on_map u tick t ∷ bad_signature accepts t ∷ script_refused t (resolve u t) ∷ []) ≡ first_fault accepts u tick t
unfolding fault_on_map own_fault missing mismatch payment_fault script_refused first_fault
grouped accepts u tick t =
    let r = resolve u t in
    regrouped (own_faults tick t) (missing_faults u t) (mismatch_faults t r) (payment_faults u t r) (bad_signature accepts t) (validator_refused t r ∷ policy_refused t r ∷ [])

-- a fault other than an allocation failure is returned if it is the first
is_fault : (accepts : Accepts) (u : Unspent) (tick : ℕ) (t : Transaction) (fault : Invalid) → (fault ≢ rule.NoMemory → first_fault accepts u tick t ≡ Some fault) → IsFaultOf accepts u tick t fault
is_fault accepts u tick t rule.NoMemory first = tt
is_fault accepts u tick t _ first = first (λ e. Prim.cc)

-- what holds of the fault that is passed on
passed_on : {A : Type 0} (P : Invalid → Type 0) (r : Result A Invalid) (fault : Invalid) → IsErrAnd r (λ e. e ≡ fault) → P fault → IfErr r P
passed_on P (Ok a) fault is one = tt
passed_on P (Err e) fault is one = subst P (sym is) one

-- What is returned for a transaction on a map, given the faults of its signatures and scripts.
module _ (accepts : Accepts) (u : Unspent) (tick : ℕ) (t : Transaction) where
  -- by the rules on the map
  pub told_by_map : {A : Type 0} (r : Result A Invalid) (fault : Invalid) → IsErrAnd r (λ e. e ≡ fault) → (fault ≢ rule.NoMemory → fault_on_map u tick t ≡ Some fault) → IfErr r (IsFaultOf accepts u tick t)
  told_by_map r fault is first =
      passed_on (IsFaultOf accepts u tick t) r fault is
      (is_fault accepts u tick t fault (λ other. sym (grouped accepts u tick t) ∙ ap (λ o. first_of (o ∷ bad_signature accepts t ∷ script_refused t (resolve u t) ∷ [])) (first other)))

  module _ (r : Resolved) (passed : (r ≡ resolve u t) × (fault_on_map u tick t ≡ None)) where
    behind_map : first_of (bad_signature accepts t ∷ script_refused t r ∷ []) ≡ first_fault accepts u tick t
    behind_map =
        ap (λ x. first_of (bad_signature accepts t ∷ script_refused t x ∷ [])) passed.0
        ∙ ap (λ o. first_of (o ∷ bad_signature accepts t ∷ script_refused t (resolve u t) ∷ [])) (sym passed.1) ∙ grouped accepts u tick t

    pub told_by_signature : (fault : Invalid) → bad_signature accepts t ≡ Some fault → IsFaultOf accepts u tick t fault
    told_by_signature fault e = is_fault accepts u tick t fault (λ _. sym behind_map ∙ ap (λ o. first_of (o ∷ script_refused t r ∷ [])) e)

    -- no signature is bad
    module _ (signed : bad_signature accepts t ≡ None) where
      pub told_by_script : (fault : Invalid) → script_refused t r ≡ Some fault → IsFaultOf accepts u tick t fault
      told_by_script fault e =
          is_fault accepts u tick t fault (λ _. sym behind_map ∙ ap (λ o. first_of (o ∷ script_refused t r ∷ [])) signed ∙ ap (λ o. first_of (o ∷ [])) e)

      pub clear : script_refused t r ≡ None → first_fault accepts u tick t ≡ None
      clear e = sym behind_map ∙ ap (λ o. first_of (o ∷ script_refused t r ∷ [])) signed ∙ ap (λ o. first_of (o ∷ [])) e
