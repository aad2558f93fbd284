-- Coin apart from the entries of other tokens.
use Rattle.std.proofs.Common.{◌≡◌, ℤ, pos, true, false, cond, List, [], ◌∷◌, length, arith, refl, sym, ap, subst, ◌∙◌}
use Rattle.std.specs.Prelude.{◌≢◌, Bool, Decides, drop}
use Rattle.std.specs.Option.{unwrap_or}
use Rattle.std.specs.Ordering.{int_eq, is_lt}
use Rattle.std.specs.Cmp.{tied_itself, first_so, signed_Decides}
use Rattle.std.specs.FinMap.{is_sorted}
use Rattle.std.specs.FinMap.Entries.{below_all}
use Rattle.mp_bundle.specs.Token.{coin, token_cmp}
use Rattle.mp_bundle.specs.Bundle.{TokenEntry, quantity_of, with_coin, IsBundle, SplitsCoin}
use Rattle.mp_bundle.specs.Inside.Bundle.{IsParted}
use Rattle.mp_bundle.proofs.Tokens.{token_total}
use Rattle.mp_bundle.proofs.Coin.{none_below, no_coin, at_coin}

no_less : is_lt (token_cmp coin coin) ≡ false
no_less = ap is_lt (tied_itself token_total coin)

-- the quantity of coin
pub coin_in : (n : ℤ) (os : List TokenEntry) → below_all token_cmp coin os ≡ true → quantity_of (with_coin n os) coin ≡ n
coin_in n os above = elim (int_eq n (pos 0)) as (λ b. int_eq n (pos 0) ≡ b → quantity_of (cond b os ((coin, n) ∷ os)) coin ≡ n) [
  | true ↦ λ is. ap (λ o. unwrap_or o (pos 0)) (none_below os coin above no_less) ∙ sym ((signed_Decides n (pos 0)).0 is)
  | false ↦ λ is. at_coin n os
] refl

pub parted_split : (n : ℤ) (os : List TokenEntry) → IsParted n os → SplitsCoin (with_coin n os) n os
parted_split n os p = elim (int_eq n (pos 0)) as (λ b. int_eq n (pos 0) ≡ b → is_sorted token_cmp (cond b os ((coin, n) ∷ os)) ≡ true → SplitsCoin (cond b os ((coin, n) ∷ os)) n os) [
  | true ↦ λ is rising. subst (λ m. SplitsCoin os m os) (sym ((signed_Decides n (pos 0)).0 is)) (no_coin os p.above rising)
  | false ↦ λ is rising. record { rising = rising; same = λ q. refl }
] refl p.bundle.rising

pub none_above : (os : List TokenEntry) → length os ≡ 0 → below_all token_cmp coin os ≡ true
none_above [] e = refl
none_above (o ∷ os) e = absurd (omega arith)

-- the parts of a bundle make that bundle
pub whole_again : (n : ℤ) (os es : List TokenEntry) → IsParted n os → with_coin n os ≡ es → with_coin (quantity_of es coin) os ≡ es
whole_again n os es p e = ap (λ m. with_coin m os) (ap (λ fs. quantity_of fs coin) (sym e) ∙ coin_in n os p.above) ∙ e

pub split_again : (n : ℤ) (os es : List TokenEntry) → IsParted n os → with_coin n os ≡ es → SplitsCoin es (quantity_of es coin) os
split_again n os es p e =
    subst (λ fs. SplitsCoin fs (quantity_of fs coin) os) e
    (subst (λ m. SplitsCoin (with_coin n os) m os) (sym (coin_in n os p.above)) (parted_split n os p))

with_some : (n : ℤ) (os : List TokenEntry) → n ≢ pos 0 → with_coin n os ≡ (coin, n) ∷ os
with_some n os some = elim (int_eq n (pos 0)) as (λ b. int_eq n (pos 0) ≡ b → cond b os ((coin, n) ∷ os) ≡ (coin, n) ∷ os) [
  | true ↦ λ is. absurd (some ((signed_Decides n (pos 0)).0 is))
  | false ↦ λ is. refl
] refl

-- coin as the first entry, apart
pub parted_first : (n : ℤ) (os : List TokenEntry) → IsBundle ((coin, n) ∷ os) → IsParted n os
parted_first n os b = record {
  bundle = subst IsBundle (sym (with_some n os b.each.0.nonzero)) b;
  above = first_so _ _ b.rising;
}

-- the others are the entries next to the coin
same_others : (n : ℤ) (xs ys : List TokenEntry) → with_coin n xs ≡ with_coin n ys → xs ≡ ys
same_others n xs ys = elim (int_eq n (pos 0)) as (λ b. cond b xs ((coin, n) ∷ xs) ≡ cond b ys ((coin, n) ∷ ys) → xs ≡ ys) [
  | true ↦ λ e. e
  | false ↦ λ e. ap (drop 1) e
]

-- two tests of the same proposition agree
pub agree : (a b : Bool) {P : Type 0} → Decides a P → Decides b P → a ≡ b
agree true b d e = sym (e.1 (d.0 refl))
agree false true d e = d.1 (e.0 refl)
agree false false d e = refl

-- bundles with the same parts are equal
pub one_of_parts : (n m : ℤ) (xs ys es fs : List TokenEntry) → with_coin (quantity_of es coin) xs ≡ es → with_coin (quantity_of fs coin) ys ≡ fs → quantity_of es coin ≡ n → quantity_of fs coin ≡ m → n ≡ m → xs ≡ ys → es ≡ fs
one_of_parts n m xs ys es fs whole whole' is is' same others =
    sym whole ∙ (λ i. with_coin ((is ∙ same ∙ sym is') i) (others i)) ∙ whole'

pub parts_of_one : (xs ys es fs : List TokenEntry) → with_coin (quantity_of es coin) xs ≡ es → with_coin (quantity_of fs coin) ys ≡ fs → es ≡ fs → xs ≡ ys
parts_of_one xs ys es fs whole whole' same =
    same_others (quantity_of es coin) xs ys (whole ∙ same ∙ sym whole' ∙ ap (λ gs. with_coin (quantity_of gs coin) ys) (sym same))

-- a property of a bundle, by its coin
pub by_coin : {X : Type 0} (f : List TokenEntry → X) (n : ℤ) (os : List TokenEntry) (x : X) → (n ≡ pos 0 → f os ≡ x) → (n ≢ pos 0 → f ((coin, n) ∷ os) ≡ x) → f (with_coin n os) ≡ x
by_coin f n os x without with = elim (int_eq n (pos 0)) as (λ b. int_eq n (pos 0) ≡ b → f (cond b os ((coin, n) ∷ os)) ≡ x) [
  | true ↦ λ is. without ((signed_Decides n (pos 0)).0 is)
  | false ↦ λ is. with (λ e. let yes = (signed_Decides n (pos 0)).1 e in Prim.cc)
] refl
