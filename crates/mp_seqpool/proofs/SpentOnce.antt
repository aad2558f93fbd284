-- In a chain, an output that the ledger doesn't have is spent at most once.
use Rattle.std.proofs.Common.{◌≡◌, ◌≢◌, ℕ, Bool, true, false, cond, List, [], ◌∷◌, refl, sym, ap, subst, ◌∙◌, ⊎_elim}
use Rattle.std.specs.Prelude.{Option, None, Some, IsSome, is_some, All}
use Rattle.std.specs.Option.{option_or}
use Rattle.std.specs.List.{AllByRecursion}
use Rattle.std.proofs.lemmas.Bool.{true≢false, false_from_ne_true}
use Rattle.mp_tx.specs.declared.reference.OutRef.{OutRef}
use Rattle.mp_tx.specs.declared.output.Output.{Output}
use Rattle.mp_tx.specs.Transaction.{Transaction, spends}
use Rattle.mp_tx.specs.Spelling.{id_of}
use Rattle.mp_utxo.specs.Apply.{Unspent, apply, after, output_made}
use Rattle.mp_utxo.specs.Leaf.{IsFed}
use Rattle.mp_utxo.proofs.Makers.{Apart}
use Rattle.mp_utxo.proofs.Places.{In}
use Rattle.mp_seqpool.specs.Keep.{transactions}
use Rattle.mp_seqpool.proofs.Dependents.{weaker}
use Rattle.mp_seqpool.proofs.LeafOut.{none_there, made_once, spent_gone, still_gone, gone_after, of_spent}

abbrev Items : Type 0
Items = List (ℕ × Transaction)

-- none makes an output at the reference
abbrev Unmade : OutRef → List Transaction → Type 0
Unmade r ts = AllByRecursion (λ t. output_made t r ≡ None) ts

-- none spends it
abbrev pub Unspent_by : OutRef → List Transaction → Type 0
Unspent_by r ts = AllByRecursion (λ t. spends t.inputs r ≡ false) ts

-- what isn't there isn't spent
spares : (u : Unspent) (t : Transaction) (r : OutRef) → All (λ i. IsSome (u i.from)) t.inputs → u r ≡ None → spends t.inputs r ≡ false
spares u t r there none = false_from_ne_true (spends t.inputs r) (λ e. none_there (u r) none (of_spent (λ q. IsSome (u q)) t.inputs r there e))

pub none_spends : (ts : List Transaction) (u : Unspent) (r : OutRef) → IsFed u ts → Unmade r ts → u r ≡ None → Unspent_by r ts
none_spends [] u r fed unmade none = tt
none_spends (t ∷ ts) u r fed unmade none = (spares u t r fed.0 none, none_spends ts (apply t u) r fed.1 unmade.1 (still_gone t u r unmade.0 none))

-- the transactions after the one that makes it make none there
others_unmade : (t : Transaction) (r : OutRef) (ts : List Transaction) → IsSome (output_made t r) → AllByRecursion (λ y. id_of t ≢ id_of y) ts → Unmade r ts
others_unmade t r ts made differ = weaker (λ y. id_of t ≢ id_of y) (λ y. output_made y r ≡ None) (λ y d. made_once t y r (λ e. d (sym e)) made) ts differ

-- ---- at most one spends it

-- after one that spends it, none does
abbrev pub Once : OutRef → List Transaction → Type 0
Once r [] = Unit {0}
Once r (t ∷ ts) = (spends t.inputs r ≡ true → Unspent_by r ts) × Once r ts

once_made : (ts : List Transaction) (u : Unspent) (r : OutRef) → IsFed u ts → Unmade r ts → Once r ts
once_made [] u r fed unmade = tt
once_made (t ∷ ts) u r fed unmade = (
  (λ s. none_spends ts (apply t u) r fed.1 unmade.1 (spent_gone t u r unmade.0 s)),
  once_made ts (apply t u) r fed.1 unmade.1,
)

pub once : (ts : List Transaction) (u : Unspent) (r : OutRef) → IsFed u ts → Apart ts → u r ≡ None → Once r ts
once [] u r fed apart none = tt
once (t ∷ ts) u r fed apart none = (
  (λ s. absurd (true≢false (sym s ∙ spares u t r fed.0 none))),
  elim (output_made t r) as (λ (m : Option Output). output_made t r ≡ m → Once r ts) [
    | None ↦ λ e. once ts (apply t u) r fed.1 apart.1 (still_gone t u r e none)
    | Some o ↦ λ e. once_made ts (apply t u) r fed.1 (others_unmade t r ts (ap is_some e) apart.0)
  ] refl,
)

pub spare_at : (items : Items) (j : ℕ × Transaction) (r : OutRef) → Unspent_by r (transactions items) → In items j → spends j.1.inputs r ≡ false
spare_at [] j r a h = absurd h
spare_at (x ∷ xs) j r a h = ⊎_elim
    (λ (e : x ≡ j). subst (λ (z : ℕ × Transaction). spends z.1.inputs r ≡ false) e a.0)
    (λ (k : In xs j). spare_at xs j r a.1 k) h

pub one_spender : (items : Items) (r : OutRef) (i j : ℕ × Transaction) → Once r (transactions items) → In items i → In items j → spends i.1.inputs r ≡ true → spends j.1.inputs r ≡ true → i ≡ j
one_spender [] r i j only a b s t = absurd a
one_spender (x ∷ xs) r i j only a b s t = ⊎_elim
    (λ (xi : x ≡ i). ⊎_elim
    (λ (xj : x ≡ j). sym xi ∙ xj)
    (λ (k : In xs j). absurd (true≢false (sym t ∙ spare_at xs j r (only.0 (ap (λ (z : ℕ × Transaction). spends z.1.inputs r) xi ∙ s)) k))) b)
    (λ (h : In xs i). ⊎_elim
    (λ (xj : x ≡ j). absurd (true≢false (sym s ∙ spare_at xs i r (only.0 (ap (λ (z : ℕ × Transaction). spends z.1.inputs r) xj ∙ t)) h)))
    (λ (k : In xs j). one_spender xs r i j only.1 h k s t) b) a

-- ---- if it is unspent afterwards, none spends it

unspent_made : (ts : List Transaction) (u : Unspent) (r : OutRef) → Unmade r ts → IsSome (after u ts r) → Unspent_by r ts
unspent_made [] u r unmade there = tt
unspent_made (t ∷ ts) u r unmade there = (
  false_from_ne_true (spends t.inputs r) (λ s. none_there (after (apply t u) ts r) (gone_after ts (apply t u) r unmade.1 (spent_gone t u r unmade.0 s)) there),
  unspent_made ts (apply t u) r unmade.1 there,
)

pub unspent_still : (ts : List Transaction) (u : Unspent) (r : OutRef) → IsFed u ts → Apart ts → u r ≡ None → IsSome (after u ts r) → Unspent_by r ts
unspent_still [] u r fed apart none there = tt
unspent_still (t ∷ ts) u r fed apart none there = (
  spares u t r fed.0 none,
  elim (output_made t r) as (λ (m : Option Output). output_made t r ≡ m → Unspent_by r ts) [
    | None ↦ λ e. unspent_still ts (apply t u) r fed.1 apart.1 (still_gone t u r e none) there
    | Some o ↦ λ e. unspent_made ts (apply t u) r (others_unmade t r ts (ap is_some e) apart.0) there
  ] refl,
)

-- ---- if none spends it, it is there once it is made

kept_there : (m : Option Output) (s : Bool) (o : Option Output) → s ≡ false → IsSome o → IsSome (option_or m (cond s None o))
kept_there (Some x) s o e there = refl
kept_there None true o e there = absurd (true≢false e)
kept_there None false o e there = there

pub there_after : (ts : List Transaction) (u : Unspent) (r : OutRef) → Unspent_by r ts → IsSome (u r) → IsSome (after u ts r)
there_after [] u r spare there = there
there_after (t ∷ ts) u r spare there = there_after ts (apply t u) r spare.1 (kept_there (output_made t r) (spends t.inputs r) (u r) spare.0 there)

made_or : (m o : Option Output) → IsSome m → IsSome (option_or m o)
made_or (Some x) o made = refl
made_or None o made = absurd (true≢false (sym made))

pub made_there : (t : Transaction) (u : Unspent) (r : OutRef) → IsSome (output_made t r) → IsSome (apply t u r)
made_there t u r made = made_or (output_made t r) (cond (spends t.inputs r) None (u r)) made
