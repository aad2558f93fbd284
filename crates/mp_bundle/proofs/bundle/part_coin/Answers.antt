use Rattle.std.proofs.Common.{◌≡◌, true, ℤ, ◌∷◌, length, to_z, of_z, arith, refl, sym, ap, subst, ◌∙◌}
use Rattle.std.specs.Int.{w64}
use Rattle.std.specs.FinMap.{is_sorted}
use Rattle.std.specs.FinMap.Entries.{below_all}
use Rattle.std.proofs.lemmas.Int.{ints}
use Rattle.mp_bundle.specs.declared.token.Token.{Token}
use Rattle.mp_bundle.specs.Token.{coin, token_cmp}
use Rattle.mp_bundle.specs.Bundle.{TokenEntry, IsBundle}
use Rattle.mp_bundle.specs.Inside.Bundle.{IsParted}
use Rattle.mp_bundle.proofs.Coin.{is_coin, all_above}
use Rattle.mp_bundle.proofs.Faults.{bundle_from_none}
use Rattle.mp_bundle.proofs.Parted.{none_above, parted_first}
use Rattle.mp_bundle.proofs.bundle.part_coin.Goals as goal
use Rattle.mp_bundle.proofs.bundle.part_coin.Goals.{in_default-via-in-Some+else-is_coin, in_default-via-in_default}

pub returns-in_default-clause-parted : goal.returns-in_default-clause-parted
returns-in_default-clause-parted c =
    let bundle = bundle_from_none c.args.entries.items c.requires in
    record {
      bundle = bundle;
      above = elim c.in_default.branch [
        | in_default-via-in-Some+else-is_coin w ↦
            let is = sym c.deref.ensures.value ∙ w.in-Some.ensures.cases.0 in
            subst (λ es. below_all token_cmp coin es ≡ true) (sym is)
            (all_above w.in-Some.first.now w.in-Some._others.now (subst (λ es. is_sorted token_cmp es ≡ true) is bundle.rising) w.is_coin.ensures.least (sym w.is_coin.ensures.same ∙ w.if-is_coin.false))
        | in_default-via-in_default w ↦ none_above c.args.entries.items (ap length (sym c.deref.ensures.value) ∙ w.in_default.ensures.cases)
      ];
    }

pub returns-clause-parted : goal.returns-clause-parted
returns-clause-parted c =
    let n = c.in-Some.first.now.1 in
    let others = c.in-Some._others.now in
    let is : c.args.entries.items ≡ c.in-Some.first.now ∷ others = sym c.deref.ensures.value ∙ c.in-Some.ensures.cases.0 in
    let named : c.in-Some.first.now ≡ (coin, n) = ap (λ (t : Token). (t, n)) (is_coin c.in-Some.first.now.0 (sym c.is_coin.ensures.same ∙ c.if-is_coin.true)) in
    let bundle : IsBundle ((coin, n) ∷ others) = subst (λ (e : TokenEntry). IsBundle (e ∷ others)) named (subst IsBundle is (bundle_from_none c.args.entries.items c.requires)) in
    let left : c.remove-first.new.self.items ≡ others = rw (c.remove-first.ensures.items, is) refl in
    let same : n ≡ to_z w64 (of_z w64 n) = omega (arith, ints) in
    subst (λ (m : ℤ). IsParted m c.remove-first.new.self.items) same (subst (IsParted n) (sym left) (parted_first n others bundle))
