-- What the inputs of a valid transaction spend is there, each once.
use Rattle.std.proofs.Common.{◌≡◌, ℕ, zero, suc, ◌<◌, Bool, true, false, ◌||◌, List, [], ◌∷◌, length, get_or, take, cond, if◌then◌else◌, refl, sym, ap, ◌∙◌, arith}
use Rattle.std.specs.Prelude.{Option, Some, None, is_some, IsSome, All}
use Rattle.std.specs.List.{AllByRecursion}
use Rattle.std.specs.Ordering.{is_lt, is_eq, eq_by_cmp, ordering_reverse}
use Rattle.std.specs.declared.cmp.Ordering.{Ordering}
use Rattle.std.specs.declared.cmp.Ordering.TheVariants.{Less, Equal, Greater}
use Rattle.std.specs.FinMap.{get, remove, get-remove}
use Rattle.std.proofs.lemmas.Bool.{and_parts, and_from}
use Rattle.std.proofs.lemmas.List.Elements.{All-map, recursion_from_All}
use Rattle.mp_tx.specs.declared.reference.OutRef.{OutRef}
use Rattle.mp_tx.specs.declared.input.Input.{Input}
use Rattle.mp_tx.specs.declared.output.Output.{Output}
use Rattle.mp_tx.specs.Reference.{ref_cmp}
use Rattle.mp_tx.specs.Rising.{rises, rises_after}
use Rattle.mp_tx.specs.Transaction.{spent_refs, spends}
use Rattle.mp_tx.specs.Ledger.{Utxo, without, AreThere, IsFirstMissing}
use Rattle.mp_tx.proofs.References.{ref_total, same-ties}

-- ---- if all are there, none is missing

there_at : (u : Utxo) (rs : List OutRef) (place : ℕ) (d : OutRef) → AreThere u rs → place < length rs → is_some (get (without u (take place rs)) (get_or rs place d)) ≡ true
there_at u [] place d there lt = absurd (omega arith)
there_at u (r ∷ rs) zero d there lt = there.0
there_at u (r ∷ rs) (suc place) d there lt = there_at (remove u r) rs place d there.1 (omega arith)

pub none_missing : (u : Utxo) (rs : List OutRef) (place : ℕ) → AreThere u rs → IsFirstMissing u rs place → ⊥
none_missing u rs place there missing =
    let d : OutRef = record { id = []; index = 0 } in
    let yes = there_at u rs place d there missing.within in
    let no = missing.missing d in
    Prim.cc

-- ---- strictly increasing references are there, also after those before them are spent

is_less : (o : Ordering) → is_lt o ≡ true → o ≡ Less
is_less Less e = refl
is_less Equal e = Prim.cc
is_less Greater e = Prim.cc

-- references that are strictly increasing after a reference are so after a lesser one
lower : (p r : OutRef) (rs : List OutRef) → ref_cmp p r ≡ Less → rises_after ref_cmp (Some r) rs ≡ true → rises_after ref_cmp (Some p) rs ≡ true
lower p r [] less rise = refl
lower p r (q ∷ qs) less rise =
    and_from _ _ (ap is_lt (ref_total.trans p r q less (is_less _ (and_parts _ _ rise).0))) (and_parts _ _ rise).1

from_first : (r : OutRef) (rs : List OutRef) → rises_after ref_cmp (Some r) rs ≡ true → rises ref_cmp rs ≡ true
from_first r [] rise = refl
from_first r (q ∷ qs) rise = (and_parts _ _ rise).1

-- a greater reference is still there after this one is spent
stays : (u : Utxo) (r q : OutRef) → ref_cmp r q ≡ Less → IsSome (get u q) → IsSome (get (remove u r) q)
stays u r q less there =
    ap is_some (get-remove ref_total u r q ∙ ap (λ o. cond (is_eq o) None (get u q)) (ref_total.antisymm q r ∙ ap ordering_reverse less)) ∙ there

all_stay : (u : Utxo) (r : OutRef) (rs : List OutRef) → rises_after ref_cmp (Some r) rs ≡ true → AllByRecursion (λ q. IsSome (get u q)) rs → AllByRecursion (λ q. IsSome (get (remove u r) q)) rs
all_stay u r [] rise there = tt
all_stay u r (q ∷ qs) rise there =
    let less = is_less _ (and_parts _ _ rise).0 in
    (stays u r q less there.0, all_stay u r qs (lower r q qs less (and_parts _ _ rise).1) there.1)

all_there : (u : Utxo) (rs : List OutRef) → rises ref_cmp rs ≡ true → AllByRecursion (λ r. IsSome (get u r)) rs → AreThere u rs
all_there u [] rise there = tt
all_there u (r ∷ rs) rise there = (there.0, all_there (remove u r) rs (from_first r rs rise) (all_stay u r rs rise there.1))

pub inputs_there : (u : Utxo) (inputs : List Input) → rises ref_cmp (spent_refs inputs) ≡ true → All (λ i. IsSome (get u i.from)) inputs → AreThere u (spent_refs inputs)
inputs_there u inputs rise there =
    all_there u (spent_refs inputs) rise (recursion_from_All (λ r. IsSome (get u r)) (spent_refs inputs) (All-map (λ r. IsSome (get u r)) (λ (i : Input). i.from) inputs there))

-- ---- what remains

neither : (b : Bool) → cond {A = Option Output} b None None ≡ None
neither true = refl
neither false = refl

-- what wasn't there isn't there after others are spent
pub not_back : (u : Utxo) (rs : List OutRef) (q : OutRef) → get u q ≡ None → get (without u rs) q ≡ None
not_back u [] q none = none
not_back u (r ∷ rs) q none =
    not_back (remove u r) rs q (get-remove ref_total u r q ∙ ap (cond (eq_by_cmp ref_cmp q r) None) none ∙ neither (eq_by_cmp ref_cmp q r))

either : (a b : Bool) (x : Option Output) → (if b then None else cond a None x) ≡ (if a || b then None else x)
either true true x = refl
either true false x = refl
either false true x = refl
either false false x = refl

pub get-spent : (u : Utxo) (inputs : List Input) (r : OutRef) → get (without u (spent_refs inputs)) r ≡ (if spends inputs r then None else get u r)
get-spent u [] r = refl
get-spent u (i ∷ is) r =
    get-spent (remove u i.from) is r
    ∙ ap (λ o. if spends is r then None else o) (get-remove ref_total u i.from r)
    ∙ either (eq_by_cmp ref_cmp r i.from) (spends is r) (get u r)
    ∙ ap (λ b. if b || spends is r then None else get u r) (sym (same-ties r i.from))
