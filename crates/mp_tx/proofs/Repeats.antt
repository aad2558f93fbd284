-- References that occur twice.
use Rattle.std.proofs.Common.{◌≡◌, ◌≢◌, ℕ, ◌<◌, List, [], ◌∷◌, ◌++◌, length, get_or, take, sym, ap, subst, ◌∙◌, append_assoc, append-nil, length-append, take_at, refl, true, false, arith}
use Rattle.std.specs.Prelude.{Contains, Option, is_some, Some, None}
use Rattle.std.specs.Map.{lookup}
use Rattle.std.proofs.lemmas.List.{get_or_default, get_or_at, length-map, map-append}
use Rattle.std.proofs.lemmas.List.Quantifiers.{all_pairs_push}
use Rattle.mp_tx.specs.declared.reference.OutRef.{OutRef}
use Rattle.mp_tx.specs.declared.output.Output.{Output}
use Rattle.mp_tx.specs.Reference.{same_ref}
use Rattle.mp_tx.specs.Ledger.{refs, AreDistinct, IsFirstRepeat}
use Rattle.mp_tx.proofs.References.{found-Decides}

-- the map has these of all outputs, in order, and the others remain
pub record IsPut (all held left : List (OutRef × Output)) : Type 0 where
  pub whole : held ++ left ≡ all
  pub distinct : AreDistinct (refs held)

refs-split : (all held left : List (OutRef × Output)) (e : OutRef × Output) → held ++ e ∷ left ≡ all → refs all ≡ refs held ++ e.0 ∷ refs left
refs-split all held left e split = ap refs (sym split) ∙ map-append (λ (x : OutRef × Output). x.0) held (e ∷ left)

pub repeats : (all held left : List (OutRef × Output)) (e : OutRef × Output) (place : ℕ) → is_some (lookup (same_ref e.0) held) ≡ true → place ≡ length held → IsPut all held (e ∷ left) → IsFirstRepeat (refs all) place
repeats all held left e place stood at put =
    let split = refs-split all held left e put.whole in
    let len : length (refs held) ≡ place = length-map held (λ (x : OutRef × Output). x.0) ∙ sym at in
    let before : take place (refs all) ≡ refs held = ap (take place) split ∙ take_at (refs held) (e.0 ∷ refs left) place len in
    let count = ap length split ∙ length-append (refs held) (e.0 ∷ refs left) in
    record {
      within = omega arith;
      again = λ d. subst (λ rs. Contains rs (get_or (refs all) place d)) (sym before)
          (subst (Contains (refs held)) (sym (ap (λ rs. get_or rs place d) split ∙ get_or_at (refs held) e.0 (refs left) d place len)) ((found-Decides held e.0).0 stood));
      before = subst AreDistinct (sym before) put.distinct;
    }

apart : (rs : List OutRef) (r : OutRef) → ¬ (Contains rs r) → (k : ℕ) (d : OutRef) → k < length rs → get_or rs k d ≢ r
apart rs r none k d lt is = none (k, lt, get_or_default rs k r d lt ∙ is)

pub one_more : (all held left new : List (OutRef × Output)) (e : OutRef × Output) → is_some (lookup (same_ref e.0) held) ≡ false → new ≡ held ++ e ∷ [] → IsPut all held (e ∷ left) → IsPut all new left
one_more all held left new e none is put = record {
  whole = ap (λ es. es ++ left) is ∙ append_assoc held (e ∷ []) left ∙ put.whole;
  distinct = subst AreDistinct (sym (ap refs is ∙ map-append (λ (x : OutRef × Output). x.0) held (e ∷ [])))
      (all_pairs_push (λ a b. a ≢ b) (refs held) e.0 put.distinct (apart (refs held) e.0 (λ h. let there = (found-Decides held e.0).1 h in Prim.cc)));
}

nothing_left : {X : Type 0} (l : List X) → length l ≡ 0 → l ≡ []
nothing_left [] h = refl
nothing_left (x ∷ xs) h = absurd (omega arith)

pub all_put : (all held left : List (OutRef × Output)) → length left ≡ 0 → IsPut all held left → held ≡ all
all_put all held left none put = sym (append-nil held) ∙ ap (λ es. held ++ es) (sym (nothing_left left none)) ∙ put.whole

pub not_there : {X : Type 0} (o : Option X) → is_some o ≡ false → o ≡ None
not_there None e = refl
not_there (Some x) e = Prim.cc
