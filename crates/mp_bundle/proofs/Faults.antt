-- Entries without a fault make a bundle, and those of a bundle have none.
use Rattle.std.proofs.Common.{◌≡◌, ◌≢◌, ◌^◌, ◌-◌, ◌≤◌, ℤ, pos, Bool, true, false, cond, not, List, [], ◌∷◌, length, All, refl, ap, ◌∙◌, arith}
use Rattle.std.specs.Prelude.{Option, Some, None, nat_lt}
use Rattle.std.specs.Option.{option_or}
use Rattle.std.specs.Ordering.{is_lt, int_eq}
use Rattle.std.specs.Cmp.{signed_Decides, first_so, second_so}
use Rattle.std.specs.Cmp.Derive.{both_true}
use Rattle.std.specs.List.{AllByRecursion}
use Rattle.std.specs.FinMap.Entries.{below_all}
use Rattle.std.specs.declared.cmp.Ordering.TheVariants.{Less}
use Rattle.std.proofs.lemmas.Int.{ints}
use Rattle.std.proofs.lemmas.Bool.Decides.{nat_tests}
use Rattle.std.proofs.lemmas.List.Elements.{All-from_recursion}
use Rattle.mp_bundle.specs.declared.fault.BundleFault.{BundleFault}
use Rattle.mp_bundle.specs.declared.fault.BundleFault.TheVariants.{NoMemory, NotRising, ZeroQuantity, NameTooLong, QuantityRange}
use Rattle.mp_bundle.specs.declared.token.Token.{Token}
use Rattle.mp_bundle.specs.Token.{token_cmp}
use Rattle.mp_bundle.specs.Bundle.{TokenEntry, IsWithin, IsEntry, IsBundle}
use Rattle.mp_bundle.specs.BundleFault.{Given, entries_of, follows, is_out_of_range, entry_fault, fault_after, fault_of, IsFaultOf}
use Rattle.mp_bundle.proofs.Tokens.{token_total}
use Rattle.mp_bundle.proofs.Search.{less}

pub is_fault : (entries : List TokenEntry) (fault : BundleFault) → fault_of entries ≡ Some fault → IsFaultOf entries fault
is_fault entries NoMemory e = tt
is_fault entries NotRising e = e
is_fault entries ZeroQuantity e = e
is_fault entries NameTooLong e = e
is_fault entries QuantityRange e = e

-- a token that is less than one below all is itself below all
pub below_from_less : (a b : Token) (es : List TokenEntry) → token_cmp a b ≡ Less → below_all token_cmp b es ≡ true → below_all token_cmp a es ≡ true
below_from_less a b [] h below = refl
below_from_less a b (e ∷ es) h below =
    both_true (ap is_lt (token_total.trans a b e.0 h (less _ (first_so _ _ below)))) (below_from_less a b es h (second_so _ _ below))

-- if a chain of tests gives nothing, each failed
no_test : (a b c d : Bool) → cond (not a) (Some NotRising) (cond b (Some ZeroQuantity) (cond c (Some NameTooLong) (cond d (Some QuantityRange) None))) ≡ None → (a ≡ true) × (b ≡ false) × (c ≡ false) × (d ≡ false)
no_test true false false false e = (refl, refl, refl, refl)
no_test false b c d e = Prim.cc
no_test true true c d e = Prim.cc
no_test true false true d e = Prim.cc
no_test true false false true e = Prim.cc

in_range : (n : ℤ) → is_out_of_range n ≡ false → IsWithin (2 ^ 63 - 1) n
unfolding is_out_of_range
in_range n h = record { least = grind (arith, ints); greatest = grind (arith, ints) }

not_out_of_range : (n : ℤ) → IsWithin (2 ^ 63 - 1) n → is_out_of_range n ≡ false
unfolding is_out_of_range
not_out_of_range n h = grind (arith, ints)

pub fine : (before : Option Token) (e : TokenEntry) → entry_fault before e ≡ None → record { follows : follows before e.0 ≡ true; entry : IsEntry e }
fine before e h =
    let t = no_test (follows before e.0) (int_eq e.1 (pos 0)) (nat_lt 32 (length e.0.name)) (is_out_of_range e.1) h in
    record {
      follows = t.0;
      entry = record {
        short = let s = t.2 in grind (arith, nat_tests);
        nonzero = λ z. let s = t.1 in let y = (signed_Decides e.1 (pos 0)).1 z in Prim.cc;
        within = in_range e.1 t.3;
      };
    }

pub first_none : {X : Type 0} (a b : Option X) → option_or a b ≡ None → (a ≡ None) × (b ≡ None)
first_none None b h = (refl, h)
first_none (Some x) b h = Prim.cc

abbrev all_follow : Option Token → List TokenEntry → Bool
all_follow None es = true
all_follow (Some before) es = below_all token_cmp before es

record IsClean (before : Option Token) (es : List TokenEntry) : Type 0 where
  after : all_follow before es ≡ true
  bundle : IsBundle es

all_after : (before : Option Token) (e : TokenEntry) (es : List TokenEntry) → follows before e.0 ≡ true → below_all token_cmp e.0 es ≡ true → all_follow before (e ∷ es) ≡ true
all_after None e es h below = refl
all_after (Some b) e es h below = both_true h (below_from_less b e.0 es (less _ h) below)

clean : (before : Option Token) (es : List TokenEntry) → fault_after before es ≡ None → IsClean before es
clean None [] h = record { after = refl; bundle = record { rising = refl; each = tt } }
clean (Some b) [] h = record { after = refl; bundle = record { rising = refl; each = tt } }
clean before (e ∷ es) h =
    let split = first_none (entry_fault before e) (fault_after (Some e.0) es) h in
    let here = fine before e split.0 in
    let rest = clean (Some e.0) es split.1 in
    record {
      after = all_after before e es here.follows rest.after;
      bundle = record { rising = both_true rest.after rest.bundle.rising; each = (here.entry, rest.bundle.each) };
    }

pub bundle_from_none : (es : List TokenEntry) → fault_of es ≡ None → IsBundle es
bundle_from_none es h = (clean None es h).bundle

pub not_true : (b : Bool) → (b ≢ true) → b ≡ false
not_true true h = absurd (h refl)
not_true false h = refl

failed : (a b c d : Bool) → a ≡ true → b ≡ false → c ≡ false → d ≡ false → cond (not a) (Some NotRising) (cond b (Some ZeroQuantity) (cond c (Some NameTooLong) (cond d (Some QuantityRange) None))) ≡ None
failed a b c d p q r s = λ i. cond (not (p i)) (Some NotRising) (cond (q i) (Some ZeroQuantity) (cond (r i) (Some NameTooLong) (cond (s i) (Some QuantityRange) None)))

follows_first : (before : Option Token) (e : TokenEntry) (es : List TokenEntry) → all_follow before (e ∷ es) ≡ true → follows before e.0 ≡ true
follows_first None e es h = refl
follows_first (Some b) e es h = first_so _ _ h

no_fault_here : (before : Option Token) (e : TokenEntry) → follows before e.0 ≡ true → IsEntry e → entry_fault before e ≡ None
no_fault_here before e h is =
    let z : int_eq e.1 (pos 0) ≡ false = not_true _ (λ t. is.nonzero ((signed_Decides e.1 (pos 0)).0 t)) in
    let s : nat_lt 32 (length e.0.name) ≡ false = let l = is.short in grind (arith, nat_tests) in
    let w = not_out_of_range e.1 is.within in
    failed _ _ _ _ h z s w

no_fault_after : (before : Option Token) (es : List TokenEntry) → all_follow before es ≡ true → IsBundle es → fault_after before es ≡ None
no_fault_after before [] after is = refl
no_fault_after before (e ∷ es) after is =
    let here = no_fault_here before e (follows_first before e es after) is.each.0 in
    let rest = no_fault_after (Some e.0) es (first_so _ _ is.rising) (record { rising = second_so _ _ is.rising; each = is.each.1 }) in
    ap (λ o. option_or o (fault_after (Some e.0) es)) here ∙ rest

pub none_from_bundle : (es : List TokenEntry) → IsBundle es → fault_of es ≡ None
none_from_bundle es is = no_fault_after None es refl is

-- the names that are given with a bundle's entries are short
short_each : {Z : Type 0} (given : List (Given Z)) → AllByRecursion IsEntry (entries_of given) → AllByRecursion (λ (g : Given Z). length g.1.items ≤ 32) given
short_each [] h = tt
short_each (g ∷ gs) h = (h.0.short, short_each gs h.1)

pub short_names : {Z : Type 0} (given : List (Given Z)) → fault_of (entries_of given) ≡ None → All (λ (g : Given Z). length g.1.items ≤ 32) given
short_names given h = All-from_recursion _ given (short_each given (bundle_from_none (entries_of given) h).each)
