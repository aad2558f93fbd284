-- What a block spends and makes, one output after another.
use Rattle.std.proofs.Common.{◌≡◌, ℕ, ◌+◌, ◌<◌, ◌≤◌, true, false, List, [], ◌∷◌, ◌++◌, length, get_or, take, drop, refl, sym, ap, subst, ◌∙◌, drop-cons, length-drop, add-one, arith}
use Rattle.std.specs.Prelude.{is_some, IsSome, IsNone}
use Rattle.std.specs.FinMap.{get, insert, remove}
use Rattle.std.proofs.lemmas.List.{take_more, take_all, get_or_default}
use Rattle.std.proofs.lemmas.List.Sums.{fold_more}
use Rattle.mp_tx.specs.declared.reference.OutRef.{OutRef}
use Rattle.mp_tx.specs.declared.output.Output.{Output}
use Rattle.mp_tx.specs.Ledger.{Utxo, without, with_outputs, AreThere, AreFree, IsFirstMissing, IsFirstTaken}
use Rattle.mp_tx.specs.Inside.Changes.{Noted, changed}

take_none : {X : Type 0} (xs : List X) → take 0 xs ≡ []
take_none [] = refl
take_none (x ∷ xs) = refl

-- ---- what is spent

-- the changes are what is spent before the index, and all of it was there
pub record IsSpent (u : Utxo) (spent : List OutRef) (cs : Noted) (place : ℕ) : Type 0 where
  pub tells : changed u cs ≡ without u (take place spent)
  pub there : AreThere u (take place spent)

pub nothing_spent : (u : Utxo) (spent : List OutRef) (cs : Noted) → cs ≡ [] → IsSpent u spent cs 0
nothing_spent u spent cs none = record {
  tells = ap (changed u) none ∙ ap (without u) (sym (take_none spent));
  there = subst (AreThere u) (sym (take_none spent)) tt;
}

there_push : (u : Utxo) (rs : List OutRef) (r : OutRef) → AreThere u rs → IsSome (get (without u rs) r) → AreThere u (rs ++ r ∷ [])
there_push u [] r before here = (here, tt)
there_push u (x ∷ rs) r before here = (before.0, there_push (remove u x) rs r before.1 here)

pub spent_more : (u : Utxo) (spent : List OutRef) (cs new : Noted) (place : ℕ) (d : OutRef) → place < length spent → is_some (get (changed u cs) (get_or spent place d)) ≡ true → changed u new ≡ remove (changed u cs) (get_or spent place d) → IsSpent u spent cs place → IsSpent u spent new (place + 1)
spent_more u spent cs new place d lt here noted before =
    let r = get_or spent place d in
    record {
      tells = noted ∙ ap (λ v. remove v r) before.tells ∙ sym (fold_more remove u spent place d lt);
      there = subst (AreThere u) (sym (take_more spent place d lt)) (there_push u (take place spent) r before.there (ap (λ v. is_some (get v r)) (sym before.tells) ∙ here));
    }

pub first_missing : (u : Utxo) (spent : List OutRef) (cs : Noted) (place : ℕ) (d : OutRef) → place < length spent → is_some (get (changed u cs) (get_or spent place d)) ≡ false → IsSpent u spent cs place → IsFirstMissing u spent place
first_missing u spent cs place d lt gone before = record {
  within = lt;
  missing = λ e. ap (λ r. is_some (get (without u (take place spent)) r)) (get_or_default spent place e d lt) ∙ ap (λ v. is_some (get v (get_or spent place d))) (sym before.tells) ∙ gone;
  before = before.there;
}

pub all_spent : (u : Utxo) (spent : List OutRef) (cs : Noted) (place : ℕ) → length spent ≤ place → IsSpent u spent cs place → (changed u cs ≡ without u spent) × AreThere u spent
all_spent u spent cs place end before = (before.tells ∙ ap (without u) (take_all place spent end), subst (AreThere u) (take_all place spent end) before.there)

-- ---- what is made

-- the changes are what is made before the index, none of it was there, and the others remain
pub record IsMade (v u : Utxo) (made left : List (OutRef × Output)) (cs : Noted) (place : ℕ) : Type 0 where
  pub tells : changed v cs ≡ with_outputs u (take place made)
  pub free : AreFree u (take place made)
  pub rest : left ≡ drop place made

pub nothing_made : (v : Utxo) (made left : List (OutRef × Output)) (cs : Noted) → left ≡ made → IsMade v (changed v cs) made left cs 0
nothing_made v made left cs all = record {
  tells = ap (with_outputs (changed v cs)) (sym (take_none made));
  free = subst (AreFree (changed v cs)) (sym (take_none made)) tt;
  rest = all;
}

free_push : (u : Utxo) (es : List (OutRef × Output)) (e : OutRef × Output) → AreFree u es → IsNone (get (with_outputs u es) e.0) → AreFree u (es ++ e ∷ [])
free_push u [] e before here = (here, tt)
free_push u (x ∷ es) e before here = (before.0, free_push (insert u x.0 x.1) es e before.1 here)

first : {X : Type 0} {x y : X} {xs ys : List X} → x ∷ xs ≡ y ∷ ys → x ≡ y
first {x = x} e = ap (λ l. get_or l 0 x) e

rest_of : {X : Type 0} {x y : X} {xs ys : List X} → x ∷ xs ≡ y ∷ ys → xs ≡ ys
rest_of e = ap (drop 1) e

-- the first remaining item is at the index
next : {X : Type 0} (xs : List X) (place : ℕ) (x : X) (left : List X) → x ∷ left ≡ drop place xs → (place < length xs) × (x ≡ get_or xs place x) × (left ≡ drop (place + 1) xs)
next xs place x left split =
    let len = ap length split ∙ length-drop place xs in
    let lt : place < length xs = omega arith in
    let parts = split ∙ drop-cons xs place x lt in
    (lt, first parts, rest_of parts ∙ ap (λ n. drop n xs) (sym (add-one place)))

pub made_more : (v u : Utxo) (made left : List (OutRef × Output)) (cs new : Noted) (place : ℕ) (e : OutRef × Output) → is_some (get (changed v cs) e.0) ≡ false → changed v new ≡ insert (changed v cs) e.0 e.1 → IsMade v u made (e ∷ left) cs place → IsMade v u made left new (place + 1)
made_more v u made left cs new place e none noted before =
    let at = next made place e left before.rest in
    record {
      tells = noted ∙ ap (λ w. insert w e.0 e.1) before.tells ∙ ap (λ (x : OutRef × Output). insert (with_outputs u (take place made)) x.0 x.1) at.1 ∙ sym (fold_more (λ w (x : OutRef × Output). insert w x.0 x.1) u made place e at.0);
      free = subst (AreFree u) (sym (take_more made place e at.0))
          (free_push u (take place made) (get_or made place e) before.free (ap (λ (x : OutRef × Output). is_some (get (with_outputs u (take place made)) x.0)) (sym at.1) ∙ ap (λ w. is_some (get w e.0)) (sym before.tells) ∙ none));
      rest = at.2;
    }

pub first_taken : (v u : Utxo) (made left : List (OutRef × Output)) (cs : Noted) (place : ℕ) (e : OutRef × Output) → is_some (get (changed v cs) e.0) ≡ true → IsMade v u made (e ∷ left) cs place → IsFirstTaken u made place
first_taken v u made left cs place e there before =
    let at = next made place e left before.rest in
    record {
      within = at.0;
      taken = λ d. ap (λ (x : OutRef × Output). is_some (get (with_outputs u (take place made)) x.0)) (get_or_default made place d e at.0 ∙ sym at.1) ∙ ap (λ w. is_some (get w e.0)) (sym before.tells) ∙ there;
      before = before.free;
    }

-- nothing remains
done : {X : Type 0} (xs : List X) (place : ℕ) → [] ≡ drop place xs → length xs ≤ place
done xs place none = let len = ap length none ∙ length-drop place xs in omega arith

pub all_made : (v u : Utxo) (made left : List (OutRef × Output)) (cs : Noted) (place : ℕ) → left ≡ [] → IsMade v u made left cs place → (changed v cs ≡ with_outputs u made) × AreFree u made
all_made v u made left cs place none before =
    let end = take_all place made (done made place (sym none ∙ before.rest)) in
    (before.tells ∙ ap (with_outputs u) end, subst (AreFree u) end before.free)
