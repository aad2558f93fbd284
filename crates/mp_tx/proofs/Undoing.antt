-- Going back from the ledger state after a block.
use Rattle.std.proofs.Common.{◌≤◌, length-append, ◌≡◌, ℕ, zero, suc, ◌+◌, ◌<◌, Bool, true, false, ◌||◌, ◌&&◌, List, [], ◌∷◌, ◌++◌, length, get_or, take, cond, refl, sym, ap, subst, ◌∙◌, arith, append-nil}
use Rattle.std.specs.Prelude.{Option, None, Some, is_some, if◌then◌else◌}
use Rattle.std.specs.List.{list_any, IsDistinct, AllByRecursion, flat_map}
use Rattle.std.specs.FinMap.{get, insert, remove, get-insert, get-remove}
use Rattle.std.proofs.lemmas.List.Folds.{list_any-append}
use Rattle.mp_tx.specs.declared.reference.OutRef.{OutRef}
use Rattle.mp_tx.specs.declared.output.Output.{Output}
use Rattle.mp_tx.specs.Reference.{same_ref}
use Rattle.mp_tx.specs.Ledger.{LedgerState, ledger_after, HasBlockBytes, Utxo, refs, without, with_outputs, AreThere, AreFree, IsFirstMissing, IsFirstTaken}
use Rattle.indexmap.specs.IndexSet.{insert_key}
use Rattle.std.proofs.lemmas.List.{take_more}
use Rattle.mp_tx.specs.declared.undo.Notes.{Notes}
use Rattle.mp_tx.specs.Undo.{Undo, GoesBack, IsWithin, DifferAt}
use Rattle.mp_tx.specs.Inside.Undo.{entry_of, found, leading, AreOf}
use Rattle.mp_tx.proofs.References.{ref_total, same-ties}
use Rattle.mp_tx.proofs.Changed.{same_exact, same_itself, same_utxo}

-- ---- if all are there none is missing, and if all are free none is taken

there_at : (u : Utxo) (rs : List OutRef) (place : ℕ) (d : OutRef) → AreThere u rs → place < length rs → is_some (get (without u (take place rs)) (get_or rs place d)) ≡ true
there_at u [] place d there lt = absurd (omega arith)
there_at u (r ∷ rs) zero d there lt = there.0
there_at u (r ∷ rs) (suc place) d there lt = there_at (remove u r) rs place d there.1 (omega arith)

pub none_missing : (u : Utxo) (rs : List OutRef) (place : ℕ) → AreThere u rs → IsFirstMissing u rs place → ⊥
none_missing u rs place there missing =
    let d : OutRef = record { id = []; index = 0 } in
    let yes = there_at u rs place d there missing.within in
    let no = missing.missing d in
    Prim.cc

free_at : (u : Utxo) (es : List (OutRef × Output)) (place : ℕ) (d : OutRef × Output) → AreFree u es → place < length es → is_some (get (with_outputs u (take place es)) (get_or es place d).0) ≡ false
free_at u [] place d free lt = absurd (omega arith)
free_at u (e ∷ es) zero d free lt = free.0
free_at u (e ∷ es) (suc place) d free lt = free_at (insert u e.0 e.1) es place d free.1 (omega arith)

pub none_taken : (u : Utxo) (es : List (OutRef × Output)) (place : ℕ) → AreFree u es → IsFirstTaken u es place → ⊥
none_taken u es place free taken =
    let r : OutRef = record { id = []; index = 0 } in
    let o : Output = record { address = []; datum_hash = []; value = [] } in
    let no = free_at u es place (r, o) free taken.within in
    let yes = taken.taken (r, o) in
    Prim.cc

-- ---- the output of a reference after others are removed and added

get-less : (u : Utxo) (r q : OutRef) → get (remove u r) q ≡ cond (same_ref q r) None (get u q)
get-less u r q = get-remove ref_total u r q ∙ ap (λ b. cond b None (get u q)) (sym (same-ties q r))

get-more : (u : Utxo) (r : OutRef) (o : Output) (q : OutRef) → get (insert u r o) q ≡ cond (same_ref q r) (Some o) (get u q)
get-more u r o q = get-insert ref_total u r o q ∙ ap (λ b. cond b (Some o) (get u q)) (sym (same-ties q r))

gone : (a b : Bool) (x : Option Output) → cond a None (cond b None x) ≡ cond (b || a) None x
gone true true x = refl
gone true false x = refl
gone false true x = refl
gone false false x = refl

pub get-without : (u : Utxo) (rs : List OutRef) (q : OutRef) → get (without u rs) q ≡ cond (list_any (same_ref q) rs) None (get u q)
get-without u [] q = refl
get-without u (r ∷ rs) q =
    get-without (remove u r) rs q
    ∙ ap (cond (list_any (same_ref q) rs) None) (get-less u r q)
    ∙ gone (list_any (same_ref q) rs) (same_ref q r) (get u q)

or_parts : (a b : Bool) → (a || b) ≡ false → (a ≡ false) × (b ≡ false)
or_parts true b e = Prim.cc
or_parts false b e = (refl, e)

-- what isn't made stays as it is
pub get-unmade : (u : Utxo) (es : List (OutRef × Output)) (q : OutRef) → list_any (same_ref q) (refs es) ≡ false → get (with_outputs u es) q ≡ get u q
get-unmade u [] q not = refl
get-unmade u (e ∷ es) q not =
    let parts = or_parts (same_ref q e.0) (list_any (same_ref q) (refs es)) not in
    get-unmade (insert u e.0 e.1) es q parts.1
    ∙ get-more u e.0 e.1 q
    ∙ ap (λ b. cond b (Some e.1) (get u q)) parts.0

-- neither list has the reference
none_of_both : (r : OutRef) (xs ys : List OutRef) → list_any (same_ref r) (xs ++ ys) ≡ false → (list_any (same_ref r) xs ≡ false) × (list_any (same_ref r) ys ≡ false)
none_of_both r xs ys e = or_parts _ _ (sym (list_any-append (same_ref r) xs ys) ∙ e)

-- a block changes only what it spends and makes
pub differ-after : (l : LedgerState) (tick block_bytes : ℕ) (spent : List OutRef) (made : List (OutRef × Output)) → DifferAt (spent ++ refs made) l (ledger_after l tick block_bytes spent made)
differ-after l tick block_bytes spent made = record {
  salt = refl;
  others = λ r not.
      let parts = none_of_both r spent (refs made) not in
      get-unmade (without l.utxo spent) made r parts.1
      ∙ get-without l.utxo spent r
      ∙ ap (λ b. cond b None (get l.utxo r)) parts.0;
}

-- ---- the outputs of references, added

put_in : Bool → Option Output → Option Output → Option Output
put_in b found old = cond (b && is_some found) found old

-- one reference more
put_more : (k q : OutRef) (u : Utxo) (b : Bool) (o old : Option Output) → get u k ≡ o → put_in b (get u q) (cond (same_ref q k && is_some o) o old) ≡ put_in (same_ref q k || b) (get u q) old
unfolding put_in
put_more k q u b o old is = by (same_ref q k) refl b (get u q) refl
  where
    by : (s : Bool) → same_ref q k ≡ s → (b : Bool) (f : Option Output) → get u q ≡ f → cond (b && is_some f) f (cond (s && is_some o) o old) ≡ cond ((s || b) && is_some f) f old
    by true e b f found =
        let same : o ≡ f = sym is ∙ ap (λ r. get u r) (sym (same_exact q k e)) ∙ found in
        subst (λ (p : Option Output). cond (b && is_some f) f (cond (is_some p) p old) ≡ cond (is_some f) f old) (sym same) (twice b f)
      where
        twice : (b : Bool) (f : Option Output) → cond (b && is_some f) f (cond (is_some f) f old) ≡ cond (is_some f) f old
        twice true None = refl
        twice true (Some x) = refl
        twice false None = refl
        twice false (Some x) = refl
    by false e b f found = refl

one_put : (w : Utxo) (k : OutRef) (o : Option Output) (q : OutRef) → get (with_outputs w (entry_of k o)) q ≡ cond (same_ref q k && is_some o) o (get w q)
one_put w k None q = by (same_ref q k)
  where
    by : (s : Bool) → get w q ≡ cond (s && false) None (get w q)
    by true = refl
    by false = refl
one_put w k (Some o) q = get-more w k o q ∙ by (same_ref q k)
  where
    by : (s : Bool) → cond s (Some o) (get w q) ≡ cond (s && true) (Some o) (get w q)
    by true = refl
    by false = refl

with-append : (w : Utxo) (es fs : List (OutRef × Output)) → with_outputs w (es ++ fs) ≡ with_outputs (with_outputs w es) fs
with-append w [] fs = refl
with-append w (e ∷ es) fs = with-append (insert w e.0 e.1) es fs

get-found : (u w : Utxo) (ks : List OutRef) (q : OutRef) → get (with_outputs w (found u ks)) q ≡ put_in (list_any (same_ref q) ks) (get u q) (get w q)
unfolding put_in
get-found u w [] q = refl
get-found u w (k ∷ ks) q =
    let first = entry_of k (get u k) in
    ap (λ v. get v q) (with-append w first (found u ks))
    ∙ get-found u (with_outputs w first) ks q
    ∙ ap (put_in (list_any (same_ref q) ks) (get u q)) (one_put w k (get u k) q)
    ∙ put_more k q u (list_any (same_ref q) ks) (get u k) (get w q) refl

-- ---- the references that lead to outputs

one_leads : (q k : OutRef) (b : Bool) → list_any (same_ref q) (if b then k ∷ [] else []) ≡ (same_ref q k && b)
one_leads q k true = by (same_ref q k)
  where
    by : (s : Bool) → (s || false) ≡ (s && true)
    by true = refl
    by false = refl
one_leads q k false = by (same_ref q k)
  where
    by : (s : Bool) → false ≡ (s && false)
    by true = refl
    by false = refl

leads_more : (k q : OutRef) (v : Utxo) (b : Bool) → ((same_ref q k && is_some (get v k)) || (b && is_some (get v q))) ≡ ((same_ref q k || b) && is_some (get v q))
leads_more k q v b = by (same_ref q k) refl
  where
    twice : (f : Bool) (b : Bool) → (f || (b && f)) ≡ f
    twice true b = refl
    twice false true = refl
    twice false false = refl

    by : (s : Bool) → same_ref q k ≡ s → ((s && is_some (get v k)) || (b && is_some (get v q))) ≡ ((s || b) && is_some (get v q))
    by true e = ap (λ r. is_some (get v r) || (b && is_some (get v q))) (sym (same_exact q k e)) ∙ twice (is_some (get v q)) b
    by false e = refl

any-leading : (v : Utxo) (ks : List OutRef) (q : OutRef) → list_any (same_ref q) (leading v ks) ≡ (list_any (same_ref q) ks && is_some (get v q))
any-leading v [] q = refl
any-leading v (k ∷ ks) q =
    list_any-append (same_ref q) (if is_some (get v k) then k ∷ [] else []) (leading v ks)
    ∙ ap (λ b. b || list_any (same_ref q) (leading v ks)) (one_leads q k (is_some (get v k)))
    ∙ ap (λ b. (same_ref q k && is_some (get v k)) || b) (any-leading v ks q)
    ∙ leads_more k q v (list_any (same_ref q) ks)

-- ---- going back

-- these references lead to nothing once those that lead to outputs are removed
none_left : (v : Utxo) (ks : List OutRef) (q : OutRef) → list_any (same_ref q) ks ≡ true → get (without v (leading v ks)) q ≡ None
none_left v ks q among =
    get-without v (leading v ks) q
    ∙ ap (λ b. cond b None (get v q)) (any-leading v ks q ∙ ap (λ b. b && is_some (get v q)) among)
    ∙ by (get v q)
  where
    by : (o : Option Output) → cond (is_some o) None o ≡ None
    by None = refl
    by (Some x) = refl

put_back : (b : Bool) (x y z : Option Output) → (b ≡ true → z ≡ None) → (b ≡ false → z ≡ x) → put_in b x z ≡ x
unfolding put_in
put_back true None y z none same = none refl
put_back true (Some x) y z none same = refl
put_back false x y z none same = same refl

left_alone : (v : Utxo) (ks : List OutRef) (q : OutRef) → list_any (same_ref q) ks ≡ false → get (without v (leading v ks)) q ≡ get v q
left_alone v ks q not = get-without v (leading v ks) q ∙ ap (λ b. cond b None (get v q)) (any-leading v ks q ∙ ap (λ b. b && is_some (get v q)) not)

pub same-back : (u v : Utxo) (ks : List OutRef) → ((q : OutRef) → list_any (same_ref q) ks ≡ false → get v q ≡ get u q) → with_outputs (without v (leading v ks)) (found u ks) ≡ u
same-back u v ks others = same_utxo _ _ (λ q.
    get-found u (without v (leading v ks)) ks q
    ∙ put_back (list_any (same_ref q) ks) (get u q) (get v q) (get (without v (leading v ks)) q) (none_left v ks q) (λ not. left_alone v ks q not ∙ others q not))

-- a reference that differs from all of them isn't among them
not_among : (k : OutRef) (ks : List OutRef) → AllByRecursion (λ q. same_ref k q ≡ false) ks → (q : OutRef) → list_any (same_ref q) ks ≡ true → same_ref q k ≡ false
not_among k [] apart q among = Prim.cc
not_among k (r ∷ rs) apart q among = by (same_ref q r) refl (same_ref q k) refl (not_among k rs apart.1 q)
  where
    by : (s : Bool) → same_ref q r ≡ s → (t : Bool) → same_ref q k ≡ t → (list_any (same_ref q) rs ≡ true → same_ref q k ≡ false) → t ≡ false
    by true e true f rest =
        let yes : same_ref k r ≡ true = ap (λ x. same_ref x r) (sym (same_exact q k f)) ∙ e in
        let no = apart.0 in
        Prim.cc
    by false e true f rest =
        let no = rest (ap (λ b. b || list_any (same_ref q) rs) (sym e) ∙ among) in
        Prim.cc
    by s e false f rest = refl

or_true : (b : Bool) → (b || true) ≡ true
or_true true = refl
or_true false = refl

own : (k : OutRef) (ks : List OutRef) → list_any (same_ref k) (k ∷ ks) ≡ true
own k ks = ap (λ b. b || list_any (same_ref k) ks) (same_itself k)

later : (k : OutRef) (ks : List OutRef) (q : OutRef) → list_any (same_ref q) ks ≡ true → list_any (same_ref q) (k ∷ ks) ≡ true
later k ks q among = ap (λ b. same_ref q k || b) among ∙ or_true (same_ref q k)

there_first : (v w : Utxo) (k : OutRef) (rs : List OutRef) (b : Bool) → is_some (get v k) ≡ b → get w k ≡ get v k → AreThere (remove w k) rs → AreThere w rs → AreThere w ((if b then k ∷ [] else []) ++ rs)
there_first v w k rs true is same with_it without_it = (ap is_some same ∙ is, with_it)
there_first v w k rs false is same with_it without_it = without_it

-- those that lead to outputs are there, one after another
pub leading-there : (v w : Utxo) (ks : List OutRef) → IsDistinct same_ref ks → ((q : OutRef) → list_any (same_ref q) ks ≡ true → get w q ≡ get v q) → AreThere w (leading v ks)
unfolding IsDistinct
leading-there v w [] once same = tt
leading-there v w (k ∷ ks) once same =
    there_first v w k (leading v ks) (is_some (get v k)) refl (same k (own k ks))
    (leading-there v (remove w k) ks once.1 (λ q among.
    get-less w k q ∙ ap (λ b. cond b None (get w q)) (not_among k ks once.0 q among) ∙ same q (later k ks q among)))
    (leading-there v w ks once.1 (λ q among. same q (later k ks q among)))

free_first : (u w : Utxo) (k : OutRef) (es : List (OutRef × Output)) (o : Option Output) → get w k ≡ None → ((x : Output) → AreFree (insert w k x) es) → AreFree w es → AreFree w (entry_of k o ++ es)
free_first u w k es None none with_it without_it = without_it
free_first u w k es (Some x) none with_it without_it = (ap is_some none, with_it x)

-- if these references lead to nothing, their outputs elsewhere can be added, one after another
pub found-free : (u w : Utxo) (ks : List OutRef) → IsDistinct same_ref ks → ((q : OutRef) → list_any (same_ref q) ks ≡ true → get w q ≡ None) → AreFree w (found u ks)
unfolding IsDistinct
found-free u w [] once none = tt
found-free u w (k ∷ ks) once none =
    free_first u w k (found u ks) (get u k) (none k (own k ks))
    (λ x. found-free u (insert w k x) ks once.1 (λ q among.
    get-more w k x q ∙ ap (λ b. cond b (Some x) (get w q)) (not_among k ks once.0 q among) ∙ none q (later k ks q among)))
    (found-free u w ks once.1 (λ q among. none q (later k ks q among)))

pub all-there : (v : Utxo) (ks : List OutRef) → IsDistinct same_ref ks → AreThere v (leading v ks)
all-there v ks once = leading-there v v ks once (λ q among. refl)

pub all-free : (u v : Utxo) (ks : List OutRef) → IsDistinct same_ref ks → AreFree (without v (leading v ks)) (found u ks)
all-free u v ks once = found-free u (without v (leading v ks)) ks once (none_left v ks)

-- ---- one reference more

one : {X : Type 0} (f : OutRef → List X) (k : OutRef) → flat_map f (k ∷ []) ≡ f k
one f k = append-nil (f k)

-- ---- all references that were noted

or_none : (b : Bool) → (b || false) ≡ b
or_none true = refl
or_none false = refl

any-insert : (ks : List OutRef) (k r : OutRef) → list_any (same_ref r) (insert_key same_ref ks k) ≡ (list_any (same_ref r) ks || same_ref r k)
any-insert ks k r = by (list_any (same_ref k) ks) refl
  where
    there : (s : Bool) → same_ref r k ≡ s → list_any (same_ref k) ks ≡ true → list_any (same_ref r) ks ≡ (list_any (same_ref r) ks || s)
    there true e is =
        let same : list_any (same_ref r) ks ≡ true = ap (λ x. list_any (same_ref x) ks) (same_exact r k e) ∙ is in
        same ∙ sym (ap (λ b. b || true) same)
    there false e is = sym (or_none _)

    by : (b : Bool) → list_any (same_ref k) ks ≡ b → list_any (same_ref r) (if b then ks else ks ++ k ∷ []) ≡ (list_any (same_ref r) ks || same_ref r k)
    by true is = there (same_ref r k) refl is
    by false is = list_any-append (same_ref r) ks (k ∷ []) ∙ ap (λ b. list_any (same_ref r) ks || b) (or_none (same_ref r k))

pub seen-none : (ks rs : List OutRef) → ks ≡ [] → (r : OutRef) → list_any (same_ref r) ks ≡ list_any (same_ref r) (take 0 rs)
seen-none ks rs none r = ap (list_any (same_ref r)) (none ∙ sym (nothing rs))
  where
    nothing : (rs : List OutRef) → take 0 rs ≡ []
    nothing [] = refl
    nothing (x ∷ xs) = refl

pub seen-more : (ks new rs : List OutRef) (i : ℕ) (d : OutRef) → i < length rs → new ≡ insert_key same_ref ks (get_or rs i d) → ((r : OutRef) → list_any (same_ref r) ks ≡ list_any (same_ref r) (take i rs)) → (r : OutRef) → list_any (same_ref r) new ≡ list_any (same_ref r) (take (i + 1) rs)
seen-more ks new rs i d lt inserts before r =
    let k = get_or rs i d in
    ap (list_any (same_ref r)) inserts
    ∙ any-insert ks k r
    ∙ ap (λ b. b || same_ref r k) (before r)
    ∙ ap (λ b. list_any (same_ref r) (take i rs) || b) (sym (or_none (same_ref r k)))
    ∙ sym (list_any-append (same_ref r) (take i rs) (k ∷ []))
    ∙ ap (list_any (same_ref r)) (sym (take_more rs i d lt))

pub goes-back : (touched : List OutRef) (before after : LedgerState) (n : Notes) (u : Undo) → DifferAt touched before after → AreOf before.utxo after.utxo n
    → ((r : OutRef) → list_any (same_ref r) n.seen.keys ≡ list_any (same_ref r) touched) → HasBlockBytes u.block_bytes
    → u.tick ≡ before.tick → u.block_bytes ≡ before.block_bytes → u.spent ≡ n.spent.items → u.made ≡ n.made.items → GoesBack after u before
goes-back touched before after n u differ of seen bytes tick block_bytes spent made =
    let ks = n.seen.keys in
    let puts : u.spent ≡ found before.utxo ks = spent ∙ of.spent in
    let takes : u.made ≡ leading after.utxo ks = made ∙ of.made in
    let same : with_outputs (without after.utxo u.made) u.spent ≡ before.utxo =
    ap (λ rs. with_outputs (without after.utxo rs) u.spent) takes
    ∙ ap (with_outputs (without after.utxo (leading after.utxo ks))) puts
    ∙ same-back before.utxo after.utxo ks (λ q not. differ.others q (sym (seen q) ∙ not)) in
    record {
      can = record {
        block_bytes = bytes;
        there = subst (AreThere after.utxo) (sym takes) (all-there after.utxo ks of.once);
        free = subst (λ rs. AreFree (without after.utxo rs) u.spent) (sym takes) (subst (AreFree (without after.utxo (leading after.utxo ks))) (sym puts) (all-free before.utxo after.utxo ks of.once));
      };
      back = λ i. record { tick = tick i; block_bytes = block_bytes i; utxo = same i; salt = differ.salt i };
    }

-- ---- their number

pub none-counted : (ks : List OutRef) → ks ≡ [] → length ks ≤ 0
none-counted ks none = subst (λ rs. length rs ≤ 0) (sym none) (omega arith)

pub counted-more : (ks new : List OutRef) (i : ℕ) (k : OutRef) → new ≡ insert_key same_ref ks k → length ks ≤ i → length new ≤ i + 1
counted-more ks new i k inserts few = subst (λ rs. length rs ≤ i + 1) (sym inserts) (by (list_any (same_ref k) ks))
  where
    by : (b : Bool) → length (if b then ks else ks ++ k ∷ []) ≤ i + 1
    by true = omega arith
    by false = omega (arith, length-append ks (k ∷ []))

length-found : (u : Utxo) (ks : List OutRef) → length (found u ks) ≤ length ks
length-found u [] = omega arith
length-found u (k ∷ ks) = by (get u k) (length-found u ks)
  where
    by : (o : Option Output) → length (found u ks) ≤ length ks → length (entry_of k o ++ found u ks) ≤ length (k ∷ ks)
    by None rest = omega arith
    by (Some x) rest = omega arith

length-leading : (v : Utxo) (ks : List OutRef) → length (leading v ks) ≤ length ks
length-leading v [] = omega arith
length-leading v (k ∷ ks) = by (is_some (get v k)) (length-leading v ks)
  where
    by : (b : Bool) → length (leading v ks) ≤ length ks → length ((if b then k ∷ [] else []) ++ leading v ks) ≤ length (k ∷ ks)
    by true rest = omega arith
    by false rest = omega arith

at_most : (a b n : ℕ) → a ≤ b → b ≤ n → a ≤ n
at_most a b n p q = omega arith

pub is-within : (before after : Utxo) (n : Notes) (u : Undo) {count : ℕ} → AreOf before after n → length n.seen.keys ≤ count → u.spent ≡ n.spent.items → u.made ≡ n.made.items → IsWithin count u
is-within before after n u {count} of few spent made = record {
  spent = subst (λ es. length es ≤ count) (sym (spent ∙ of.spent)) (at_most _ _ count (length-found before n.seen.keys) few);
  made = subst (λ rs. length rs ≤ count) (sym (made ∙ of.made)) (at_most _ _ count (length-leading after n.seen.keys) few);
}
