-- What changes do to outputs.
use Rattle.std.proofs.Common.{◌≡◌, Bor, Bool, true, false, List, [], ◌∷◌, ◌++◌, refl, sym, ap, subst, ◌∙◌}
use Rattle.std.specs.Prelude.{Option, None, Some, cond, fold, is_some}
use Rattle.std.specs.Option.{option_or, option_copied}
use Rattle.std.specs.Cmp.{IsEquivalence, eq_by_cmp_equiv}
use Rattle.std.specs.List.{IsDistinct}
use Rattle.std.specs.FinMap.{get, from_entries, same_map, get-insert, get-remove}
use Rattle.std.specs.Map.{lookup, keys_of}
use Rattle.std.proofs.lemmas.Map.{lookup-none}
use Rattle.std.proofs.lemmas.Map.Entries.{none_past_head}
use Rattle.std.proofs.lemmas.Map.Keys.{IsDistinct-tail}
use Rattle.indexmap.specs.IndexMap.{insert_entry}
use Rattle.mp_tx.specs.declared.reference.OutRef.{OutRef}
use Rattle.mp_tx.specs.declared.output.Output.{Output}
use Rattle.mp_tx.specs.declared.ledger.change.Change.{Change}
use Rattle.mp_tx.specs.declared.ledger.change.Change.TheVariants.{Spent, Made}
use Rattle.mp_tx.specs.Reference.{ref_cmp, same_ref}
use Rattle.mp_tx.specs.Ledger.{Utxo}
use Rattle.mp_tx.specs.Inside.Changes.{Noted, output_of, changed_at, changed, with_earlier}
use Rattle.mp_tx.specs.Inside.Base.{with_kept, with_change}
use Rattle.mp_tx.proofs.References.{lookup-get, ref_total, ref_exact, same-ties, equal, tied-Decides}

pub same_exact : (a b : OutRef) → same_ref a b ≡ true → a ≡ b
same_exact a b e = ref_exact a b (equal _ (sym (same-ties a b) ∙ e))

pub same_itself : (a : OutRef) → same_ref a a ≡ true
same_itself a = same-ties a a ∙ (tied-Decides a a).1 refl

pub same_utxo : (u v : Utxo) → ((q : OutRef) → get u q ≡ get v q) → u ≡ v
same_utxo u v alike = same_map ref_total ref_exact u v alike

-- the output of a reference after its change
abbrev pub after : Option Change → Option Output → Option Output
after None o = o
after (Some c) o = output_of c

pub get-changed_at : (u : Utxo) (r : OutRef) (c : Change) (q : OutRef) → get (changed_at u r c) q ≡ cond (same_ref q r) (after (Some c) (get u q)) (get u q)
get-changed_at u r Spent q = get-remove ref_total u r q ∙ ap (λ b. cond b None (get u q)) (sym (same-ties q r))
get-changed_at u r (Made output) q = get-insert ref_total u r output q ∙ ap (λ b. cond b (Some output) (get u q)) (sym (same-ties q r))

later : (b : Bool) (c : Change) (l : Option Change) (x y : Option Output) → x ≡ after l y → cond b (after (Some c) x) x ≡ after (cond b (Some c) l) y
later true Spent l x y e = refl
later true (Made output) l x y e = refl
later false c l x y e = e

pub get-changed : (u : Utxo) (cs : Noted) (q : OutRef) → get (changed u cs) q ≡ after (lookup (same_ref q) cs) (get u q)
get-changed u [] q = refl
get-changed u (c ∷ cs) q =
    get-changed_at (changed u cs) c.0 c.1 q
    ∙ later (same_ref q c.0) c.1 (lookup (same_ref q) cs) (get (changed u cs) q) (get u q) (get-changed u cs q)

pub copied_some : (o : Option (Bor Output)) → is_some o ≡ is_some (option_copied o)
copied_some None = refl
copied_some (Some x) = refl

-- the look-up in the changes and then in the list of a table is the look-up in the map
pub found-changed : (bs : List (OutRef × Output)) (cs : Noted) (q : OutRef) (l : Option Change) → l ≡ lookup (same_ref q) cs → after l (lookup (same_ref q) bs) ≡ get (changed (from_entries {R = ref_cmp} bs) cs) q
found-changed bs cs q l is =
    ap (λ m. after m (lookup (same_ref q) bs)) is
    ∙ ap (after (lookup (same_ref q) cs)) (lookup-get bs q)
    ∙ sym (get-changed (from_entries bs) cs q)

pub changed_alike : (u : Utxo) (cs ds : Noted) → ((q : OutRef) → lookup (same_ref q) cs ≡ lookup (same_ref q) ds) → changed u cs ≡ changed u ds
changed_alike u cs ds alike = same_utxo _ _ (λ q. get-changed u cs q ∙ ap (λ l. after l (get u q)) (alike q) ∙ sym (get-changed u ds q))

pub changed-append : (u : Utxo) (cs ds : Noted) → changed u (cs ++ ds) ≡ changed (changed u ds) cs
changed-append u [] ds = refl
changed-append u (c ∷ cs) ds = ap (λ v. changed_at v c.0 c.1) (changed-append u cs ds)

pub lookup-append : {X : Type 0} (test : OutRef → Bool) (xs ys : List (OutRef × X)) → lookup test (xs ++ ys) ≡ option_or (lookup test xs) (lookup test ys)
lookup-append test [] ys = refl
lookup-append test (x ∷ xs) ys =
    elim (test x.0) as (λ b. cond b (Some x.1) (lookup test (xs ++ ys)) ≡ option_or (cond b (Some x.1) (lookup test xs)) (lookup test ys)) [
      | true ↦ refl
      | false ↦ lookup-append test xs ys
    ]

or_none : {X : Type 0} (o : Option X) → option_or o None ≡ o
or_none None = refl
or_none (Some x) = refl

or_some : {X : Type 0} (o p : Option X) → is_some o ≡ true → option_or o p ≡ o
or_some None p e = Prim.cc
or_some (Some x) p e = refl

-- an older change of a reference that has a newer one makes no difference
known : (cs : Noted) (c : OutRef × Change) (q : OutRef) → is_some (lookup (same_ref c.0) cs) ≡ true → lookup (same_ref q) cs ≡ lookup (same_ref q) (cs ++ c ∷ [])
known cs c q there = sym (by (same_ref q c.0) refl)
  where
    by : (b : Bool) → same_ref q c.0 ≡ b → lookup (same_ref q) (cs ++ c ∷ []) ≡ lookup (same_ref q) cs
    by true e = lookup-append (same_ref q) cs (c ∷ []) ∙ or_some _ _ (ap (λ r. is_some (lookup (same_ref r) cs)) (same_exact q c.0 e) ∙ there)
    by false e = lookup-append (same_ref q) cs (c ∷ []) ∙ ap (λ b. option_or (lookup (same_ref q) cs) (cond b (Some c.1) None)) e ∙ or_none _

lookup-with_earlier : (cs : Noted) (c : OutRef × Change) (q : OutRef) → lookup (same_ref q) (with_earlier cs c) ≡ lookup (same_ref q) (cs ++ c ∷ [])
lookup-with_earlier cs c q = by (is_some (lookup (same_ref c.0) cs)) refl
  where
    by : (b : Bool) → is_some (lookup (same_ref c.0) cs) ≡ b → lookup (same_ref q) (with_earlier cs c) ≡ lookup (same_ref q) (cs ++ c ∷ [])
    by true e = ap (λ b. lookup (same_ref q) (cond b cs (cs ++ c ∷ []))) e ∙ known cs c q e
    by false e = ap (λ b. lookup (same_ref q) (cond b cs (cs ++ c ∷ []))) e

-- joined changes are the newer ones after the older ones
pub changed-joined : (u : Utxo) (cs es : Noted) → changed u (fold with_earlier cs es) ≡ changed (changed u es) cs
changed-joined u cs [] = refl
changed-joined u cs (e ∷ es) =
    changed-joined u (with_earlier cs e) es
    ∙ changed_alike (changed u es) (with_earlier cs e) (cs ++ e ∷ []) (lookup-with_earlier cs e)
    ∙ changed-append (changed u es) cs (e ∷ [])

lookup-insert_entry : {X : Type 0} (es : List (OutRef × X)) (k : OutRef) (v : X) (q : OutRef) → lookup (same_ref q) (insert_entry same_ref es k v) ≡ cond (same_ref q k) (Some v) (lookup (same_ref q) es)
lookup-insert_entry [] k v q = refl
lookup-insert_entry {X} (e ∷ es) k v q = by (lookup-insert_entry es k v q) (same_ref k e.0) refl
  where
    shadowed : (b : Bool) (x y z : Option X) → cond b x z ≡ cond b x (cond b y z)
    shadowed true x y z = refl
    shadowed false x y z = refl

    swapped : (a b : Bool) (x y z : Option X) → (a ≡ true → b ≡ true → ⊥) → cond a x (cond b y z) ≡ cond b y (cond a x z)
    swapped true true x y z apart = absurd (apart refl refl)
    swapped true false x y z apart = refl
    swapped false b x y z apart = refl

    by : lookup (same_ref q) (insert_entry same_ref es k v) ≡ cond (same_ref q k) (Some v) (lookup (same_ref q) es) → (b : Bool) → same_ref k e.0 ≡ b → lookup (same_ref q) (insert_entry same_ref (e ∷ es) k v) ≡ cond (same_ref q k) (Some v) (lookup (same_ref q) (e ∷ es))
    by rest true t =
        ap (λ b. lookup (same_ref q) (cond b ((e.0, v) ∷ es) (e ∷ insert_entry same_ref es k v))) t
        ∙ shadowed (same_ref q e.0) (Some v) (Some e.1) (lookup (same_ref q) es)
        ∙ ap (λ r. cond (same_ref q r) (Some v) (lookup (same_ref q) (e ∷ es))) (sym (same_exact k e.0 t))
    by rest false t =
        ap (λ b. lookup (same_ref q) (cond b ((e.0, v) ∷ es) (e ∷ insert_entry same_ref es k v))) t
        ∙ ap (λ o. cond (same_ref q e.0) (Some e.1) o) rest
        ∙ swapped (same_ref q e.0) (same_ref q k) (Some e.1) (Some v) (lookup (same_ref q) es) (λ a b. let same = sym (same_exact q k b) ∙ same_exact q e.0 a in let tie = ap (same_ref k) (sym same) ∙ same_itself k in Prim.cc)

-- recording a change applies it
pub changed-insert_entry : (u : Utxo) (cs : Noted) (r : OutRef) (c : Change) → changed u (insert_entry same_ref cs r c) ≡ changed_at (changed u cs) r c
changed-insert_entry u cs r c = changed_alike u (insert_entry same_ref cs r c) ((r, c) ∷ cs) (lookup-insert_entry cs r c)

-- ---- a table that is built from scratch
same_laws : IsEquivalence same_ref
same_laws = subst IsEquivalence (sym (λ i a b. same-ties a b i)) (eq_by_cmp_equiv ref_total)

-- if references are distinct, the first doesn't occur later
none_later : {X : Type 0} (q : OutRef) (e : OutRef × X) (es : List (OutRef × X)) → IsDistinct same_ref (keys_of (e ∷ es)) → same_ref q e.0 ≡ true → lookup (same_ref q) es ≡ None
none_later q e es distinct same = lookup-none (same_ref q) es (none_past_head same_laws q e es distinct same)

either : {X : Type 0} (b : Bool) (x : Option X) → x ≡ cond b x x
either true x = refl
either false x = refl

-- the output of a reference in the table after its change was added, if it made one
abbrev put : Option Change → Option Output → Option Output
put None o = o
put (Some Spent) o = o
put (Some (Made output)) o = Some output

lookup-with_change : (es : List (OutRef × Output)) (r : OutRef) (c : Change) (q : OutRef) → lookup (same_ref q) (with_change es (r, c)) ≡ cond (same_ref q r) (put (Some c) (lookup (same_ref q) es)) (lookup (same_ref q) es)
lookup-with_change es r Spent q = either (same_ref q r) (lookup (same_ref q) es)
lookup-with_change es r (Made output) q = lookup-insert_entry es r output q

lookup-with_changes : (es : List (OutRef × Output)) (cs : Noted) (q : OutRef) → IsDistinct same_ref (keys_of cs) → lookup (same_ref q) (fold with_change es cs) ≡ put (lookup (same_ref q) cs) (lookup (same_ref q) es)
lookup-with_changes es [] q distinct = refl
lookup-with_changes es (c ∷ cs) q distinct = by (lookup-with_changes (with_change es c) cs q (IsDistinct-tail same_ref c.0 (keys_of cs) distinct)) (same_ref q c.0) refl
  where
    by : lookup (same_ref q) (fold with_change (with_change es c) cs) ≡ put (lookup (same_ref q) cs) (lookup (same_ref q) (with_change es c)) → (b : Bool) → same_ref q c.0 ≡ b → lookup (same_ref q) (fold with_change es (c ∷ cs)) ≡ put (lookup (same_ref q) (c ∷ cs)) (lookup (same_ref q) es)
    by rest true e =
        rest
        ∙ ap (λ l. put l (lookup (same_ref q) (with_change es c))) (none_later q c cs distinct e)
        ∙ lookup-with_change es c.0 c.1 q
        ∙ ap (λ b. cond b (put (Some c.1) (lookup (same_ref q) es)) (lookup (same_ref q) es)) e
        ∙ ap (λ b. put (cond b (Some c.1) (lookup (same_ref q) cs)) (lookup (same_ref q) es)) (sym e)
    by rest false e =
        rest
        ∙ ap (put (lookup (same_ref q) cs)) (lookup-with_change es c.0 c.1 q ∙ ap (λ b. cond b (put (Some c.1) (lookup (same_ref q) es)) (lookup (same_ref q) es)) e)
        ∙ ap (λ b. put (cond b (Some c.1) (lookup (same_ref q) cs)) (lookup (same_ref q) es)) (sym e)

lookup-with_kept : (cs : Noted) (es : List (OutRef × Output)) (e : OutRef × Output) (q : OutRef) → lookup (same_ref q) (with_kept cs es e) ≡ cond (is_some (lookup (same_ref q) cs)) (lookup (same_ref q) es) (cond (same_ref q e.0) (Some e.1) (lookup (same_ref q) es))
lookup-with_kept cs es e q = by (is_some (lookup (same_ref e.0) cs)) (same_ref q e.0) refl refl
  where
    L : Option Output
    L = lookup (same_ref q) es

    found : same_ref q e.0 ≡ true → is_some (lookup (same_ref q) cs) ≡ is_some (lookup (same_ref e.0) cs)
    found same = ap (λ r. is_some (lookup (same_ref r) cs)) (same_exact q e.0 same)

    kept : (b : Bool) → is_some (lookup (same_ref e.0) cs) ≡ b → lookup (same_ref q) (with_kept cs es e) ≡ lookup (same_ref q) (cond b es (insert_entry same_ref es e.0 e.1))
    kept b t = ap (λ b. lookup (same_ref q) (cond b es (insert_entry same_ref es e.0 e.1))) t

    by : (b s : Bool) → is_some (lookup (same_ref e.0) cs) ≡ b → same_ref q e.0 ≡ s → lookup (same_ref q) (with_kept cs es e) ≡ cond (is_some (lookup (same_ref q) cs)) L (cond (same_ref q e.0) (Some e.1) L)
    by true true t s = kept true t ∙ ap (λ b. cond b L (cond (same_ref q e.0) (Some e.1) L)) (sym (found s ∙ t))
    by true false t s = kept true t ∙ either (is_some (lookup (same_ref q) cs)) L ∙ ap (λ b. cond (is_some (lookup (same_ref q) cs)) L (cond b (Some e.1) L)) (sym s)
    by false true t s = kept false t ∙ lookup-insert_entry es e.0 e.1 q ∙ ap (λ b. cond b L (cond (same_ref q e.0) (Some e.1) L)) (sym (found s ∙ t))
    by false false t s =
        kept false t ∙ lookup-insert_entry es e.0 e.1 q ∙ ap (λ b. cond b (Some e.1) L) s
        ∙ either (is_some (lookup (same_ref q) cs)) L ∙ ap (λ b. cond (is_some (lookup (same_ref q) cs)) L (cond b (Some e.1) L)) (sym s)

lookup-all_kept : (cs : Noted) (es bs : List (OutRef × Output)) (q : OutRef) → IsDistinct same_ref (keys_of bs) → lookup (same_ref q) (fold (with_kept cs) es bs) ≡ cond (is_some (lookup (same_ref q) cs)) (lookup (same_ref q) es) (option_or (lookup (same_ref q) bs) (lookup (same_ref q) es))
lookup-all_kept cs es [] q distinct = either (is_some (lookup (same_ref q) cs)) (lookup (same_ref q) es)
lookup-all_kept cs es (b ∷ bs) q distinct =
    lookup-all_kept cs (with_kept cs es b) bs q (IsDistinct-tail same_ref b.0 (keys_of bs) distinct)
    ∙ ap (λ l. cond S l (option_or B l)) (lookup-with_kept cs es b q)
    ∙ by S (same_ref q b.0) refl
  where
    S : Bool
    S = is_some (lookup (same_ref q) cs)

    B : Option Output
    B = lookup (same_ref q) bs

    L : Option Output
    L = lookup (same_ref q) es

    by : (s m : Bool) → same_ref q b.0 ≡ m → cond s (cond s L (cond m (Some b.1) L)) (option_or B (cond s L (cond m (Some b.1) L))) ≡ cond s L (option_or (cond m (Some b.1) B) L)
    by true m e = refl
    by false true e = ap (λ l. option_or l (Some b.1)) (none_later q b bs distinct e)
    by false false e = refl

settled : (l : Option Change) (b : Option Output) → put l (cond (is_some l) None (option_or b None)) ≡ after l b
settled None b = or_none b
settled (Some Spent) b = refl
settled (Some (Made output)) b = refl

-- the old outputs without changes, and those that were made, are the outputs after the changes
pub from_entries-settled : (bs : List (OutRef × Output)) (cs : Noted) → IsDistinct same_ref (keys_of bs) → IsDistinct same_ref (keys_of cs) → from_entries {R = ref_cmp} (fold with_change (fold (with_kept cs) [] bs) cs) ≡ changed (from_entries bs) cs
from_entries-settled bs cs old new = same_utxo _ _ (λ q.
    sym (lookup-get _ q)
    ∙ lookup-with_changes _ cs q new
    ∙ ap (put (lookup (same_ref q) cs)) (lookup-all_kept cs [] bs q old)
    ∙ settled (lookup (same_ref q) cs) (lookup (same_ref q) bs)
    ∙ ap (after (lookup (same_ref q) cs)) (lookup-get bs q)
    ∙ sym (get-changed (from_entries bs) cs q))
