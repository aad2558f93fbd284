-- A transaction without a first fault is valid, and what the first fault says is true.
use Rattle.std.proofs.Common.{◌≡◌, ℕ, List, [], ◌∷◌, ◌++◌, map, get_or, refl, ap, ◌∙◌}
use Rattle.std.specs.Prelude.{Option, None, Some, All}
use Rattle.std.specs.List.{AllByRecursion}
use Rattle.std.proofs.lemmas.List.Elements.{All-nil, All-cons}
use Rattle.mp_bundle.specs.Bundle.{IsBundle}
use Rattle.mp_tx.specs.Transaction.{Transaction}
use Rattle.mp_utxo.specs.Apply.{Unspent}
use Rattle.mp_rules.specs.declared.invalid.Invalid.{Invalid}
use Rattle.mp_rules.specs.Verifier.{Accepts}
use Rattle.mp_rules.specs.Validity.{Rule, rules, IsValid}
use Rattle.mp_rules.specs.FirstFault.{first_of, fault_of, first_fault}
use Rattle.mp_rules.specs.Laws.{IsFirstFault, ValidIsFaultless, FirstFaultIsBroken}
use Rattle.mp_rules.proofs.Faults.{of_each, each_rule}

module _ (fault_of : Rule → Option Invalid) where
  no_faults : (rs : List Rule) → first_of (map fault_of rs) ≡ None → AllByRecursion (λ r. fault_of r ≡ None) rs
  no_faults [] e = tt
  no_faults (r ∷ rs) e = elim (fault_of r) as (λ o. fault_of r ≡ o → first_of (o ∷ map fault_of rs) ≡ None → (fault_of r ≡ None) × AllByRecursion (λ r. fault_of r ≡ None) rs) [
    | None ↦ λ h e. (h, no_faults rs e)
    | Some fault ↦ λ h e. absurd (let f = e in Prim.cc)
  ] refl e

  none_first : ((r : Rule) → fault_of r ≡ None) → (rs : List Rule) → first_of (map fault_of rs) ≡ None
  none_first none [] = refl
  none_first none (r ∷ rs) = ap (λ o. first_of (o ∷ map fault_of rs)) (none r) ∙ none_first none rs

  -- the first of these rules that has a fault
  record IsFirst (rs : List Rule) (fault : Invalid) : Type 0 where
    own : Rule
    has : fault_of own ≡ Some fault
    earlier : List Rule
    later : List Rule
    order : rs ≡ earlier ++ own ∷ later
    clear : All (λ r. fault_of r ≡ None) earlier

  is_first : (rs : List Rule) (fault : Invalid) → first_of (map fault_of rs) ≡ Some fault → IsFirst rs fault
  is_first [] fault e = absurd (let f = e in Prim.cc)
  is_first (r ∷ rs) fault e = elim (fault_of r) as (λ o. fault_of r ≡ o → first_of (o ∷ map fault_of rs) ≡ Some fault → IsFirst (r ∷ rs) fault) [
    | None ↦ λ h e.
        let next = is_first rs fault e in
        record {
          own = next.own;
          has = next.has;
          earlier = r ∷ next.earlier;
          later = next.later;
          order = ap (λ qs. r ∷ qs) next.order;
          clear = All-cons (λ r. fault_of r ≡ None) r next.earlier h next.clear;
        }
    | Some x ↦ λ h e. record { own = r; has = h ∙ e; earlier = []; later = rs; order = refl; clear = All-nil (λ r. fault_of r ≡ None) }
  ] refl e

module _ (accepts : Accepts) (u : Unspent) (tick : ℕ) (t : Transaction) where
  -- a transaction without a first fault is valid
  pub valid : first_fault accepts u tick t ≡ None → IsValid accepts u tick t
  unfolding first_fault
  valid e r = (each_rule accepts u tick t r).holds (of_each (λ r. fault_of accepts u tick t r ≡ None) (no_faults (fault_of accepts u tick t) rules e) r)

  pub faultless : IsValid accepts u tick t → first_fault accepts u tick t ≡ None
  unfolding first_fault
  faultless is = none_first (fault_of accepts u tick t) (λ r. (each_rule accepts u tick t r).none (is r)) rules

  pub first_is_broken : (fault : Invalid) → IsBundle t.forge → first_fault accepts u tick t ≡ Some fault → IsFirstFault accepts u tick t fault
  unfolding first_fault
  first_is_broken fault is e =
      let first = is_first (fault_of accepts u tick t) rules fault e in
      let at = (each_rule accepts u tick t first.own).broken fault first.has is in
      record {
        broken = at.broken;
        own = first.own;
        is_own = at.is_of;
        earlier = first.earlier;
        later = first.later;
        order = first.order;
        hold = λ k d lt. (each_rule accepts u tick t (get_or first.earlier k d)).holds (first.clear k d lt);
      }

-- ---- the laws

pub valid_is_faultless : ValidIsFaultless
valid_is_faultless accepts u tick t = (faultless accepts u tick t, valid accepts u tick t)

pub first_fault_is_broken : FirstFaultIsBroken
first_fault_is_broken accepts u tick t fault is e = first_is_broken accepts u tick t fault is e
