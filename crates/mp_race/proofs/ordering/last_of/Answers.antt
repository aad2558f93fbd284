use Rattle.std.proofs.Common.{◌≡◌, ℕ, ◌+◌, List, [], ◌∷◌, ◌++◌, take, true, sym, ap, subst, ◌∙◌, arith}
use Rattle.std.specs.Prelude.{◌==◌, Some}
use Rattle.std.proofs.lemmas.List.{take_more, length-take-le}
use Rattle.mp_history.specs.Entry.{Entry}
use Rattle.mp_history.specs.Log.{last_of}
use Rattle.mp_history.proofs.Law.{eqb-refl}
use Rattle.mp_history.proofs.Logs.{last_of-own, last_of-other}
use Rattle.mp_race.proofs.Ordered.{apart}
use Rattle.mp_race.proofs.ordering.last_of.Goals as goal
use Rattle.mp_race.proofs.ordering.last_of.Goals.{then-entry-caller, else-entry-caller}

pub loop-place-preserved : goal.loop-place-preserved
loop-place-preserved c =
    let es : List Entry = c.args.entries.now in
    let k : ℕ = c.loop-place.place in
    let d : Entry = c.index-entries-place.result in
    let w : ℕ = c.args.caller in
    let is : d.caller ≡ c.entry.inside.caller = ap (λ (e : Entry). e.caller) (sym c.entry.view_is) in
    let more : take (k + 1) es ≡ take k es ++ d ∷ [] = take_more es k d c.loop-place-test.true ∙ ap (λ x. take k es ++ x ∷ []) (sym c.index-entries-place.is) in
    elim c.if-entry-caller.branch [
      | then-entry-caller b ↦ b.last-is ∙ ap (λ n. Some n) (sym (length-take-le k es (omega (arith, c.loop-place-test.true)))) ∙ sym (ap (last_of w) more ∙ last_of-own w (take k es) d (subst (λ n. (n == d.caller) ≡ true) (is ∙ b.if-entry-caller.true) (eqb-refl d.caller)))
      | else-entry-caller b ↦ b.last-is ∙ c.loop-place.invariant ∙ sym (ap (last_of w) more ∙ last_of-other w (take k es) d (apart w d.caller (λ same. b.if-entry-caller.false (sym is ∙ same))))
    ]
