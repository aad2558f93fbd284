-- One more reference that is recorded.
use Rattle.std.proofs.Common.{◌≡◌, ℕ, ◌+◌, ◌<◌, Bool, true, false, ◌||◌, List, length, get_or, take, if◌then◌else◌, refl, sym, ap, ◌∙◌}
use Rattle.std.specs.Prelude.{Option, None, Some}
use Rattle.std.specs.Cmp.{eq_by_cmp_equiv}
use Rattle.std.proofs.lemmas.List.Folds.{list_any_more}
use Rattle.mp_tx.specs.declared.reference.OutRef.{OutRef}
use Rattle.mp_tx.specs.declared.input.Input.{Input}
use Rattle.mp_tx.specs.Reference.{same_ref}
use Rattle.mp_tx.specs.Transaction.{spends}
use Rattle.mp_tx.proofs.References.{same-ties, ref_total, ref_exact, equal}
use Rattle.mp_utxo.specs.declared.changes.Change.{Change}
use Rattle.mp_utxo.specs.declared.changes.Change.TheVariants.{Spent, Made, MadeThenSpent}
use Rattle.mp_utxo.specs.Inside.Changes.{Noted, SpendsOne, Spends, Becomes, last_change, spent, restored, Restores, RestoresOne}

same-back : (a b : OutRef) → same_ref a b ≡ same_ref b a
same-back a b = same-ties a b ∙ (eq_by_cmp_equiv ref_total).symm a b ∙ sym (same-ties b a)

pub same-exact : (a b : OutRef) → same_ref a b ≡ true → a ≡ b
same-exact a b e = ref_exact a b (equal _ (sym (same-ties a b) ∙ e))

-- ---- one more reference

either : (a b : Bool) (o : Option Change) (next : Option Change → Option Change) → ((o : Option Change) → next (next o) ≡ next o)
    → (if b then next (if a then next o else o) else (if a then next o else o)) ≡ (if a || b then next o else o)
either true true o next again = again o
either true false o next again = refl
either false true o next again = refl
either false false o next again = refl

-- the changes after one more input, if the same change twice makes no difference
pub becomes_more : (next : Option Change → Option Change) → ((o : Option Change) → next (next o) ≡ next o) → (old mid new : Noted) (inputs : List Input) (i : ℕ) (input : Input)
    → i < length inputs → input ≡ get_or inputs i input → Becomes old (spends (take i inputs)) next mid → Becomes mid (same_ref input.from) next new → Becomes old (spends (take (i + 1) inputs)) next new
becomes_more next again old mid new inputs i input lt is before one = λ r.
    one r
    ∙ ap (λ o. if same_ref input.from r then next o else o) (before r)
    ∙ either (spends (take i inputs) r) (same_ref input.from r) (last_change old r) next again
    ∙ ap (λ b. if spends (take i inputs) r || b then next (last_change old r) else last_change old r) (same-back input.from r ∙ ap (λ (d : Input). same_ref r d.from) is)
    ∙ ap (λ b. if b then next (last_change old r) else last_change old r) (sym (list_any_more (λ (d : Input). same_ref r d.from) inputs i input lt))

spent-again : (by : ℕ) (o : Option Change) → Some (spent by (Some (spent by o))) ≡ Some (spent by o)
spent-again by None = refl
spent-again by (Some Spent) = refl
spent-again by (Some (Made place)) = refl
spent-again by (Some (MadeThenSpent place before)) = refl

-- what one more input spends
pub spends_more : (old mid new : Noted) (by : ℕ) (inputs : List Input) (i : ℕ) (input : Input) → i < length inputs → input ≡ get_or inputs i input → Spends old by (take i inputs) mid → SpendsOne mid by input.from new → Spends old by (take (i + 1) inputs) new
spends_more old mid new by inputs i input lt is before one = becomes_more (λ o. Some (spent by o)) (spent-again by) old mid new inputs i input lt is before one

restored-again : (o : Option Change) → restored (restored o) ≡ restored o
restored-again None = refl
restored-again (Some Spent) = refl
restored-again (Some (Made place)) = refl
restored-again (Some (MadeThenSpent place spender)) = refl

-- what one more input spent
pub restores_more : (old mid new : Noted) (inputs : List Input) (i : ℕ) (input : Input) → i < length inputs → input ≡ get_or inputs i input → Restores old (take i inputs) mid → RestoresOne mid input.from new → Restores old (take (i + 1) inputs) new
restores_more old mid new inputs i input lt is before one = becomes_more restored restored-again old mid new inputs i input lt is before one
