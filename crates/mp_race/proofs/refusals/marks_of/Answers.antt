use Rattle.std.proofs.Common.{◌≡◌, ◌≤◌, ℕ, ◌+◌, true, List, [], ◌∷◌, ◌++◌, take, length, set, refl, sym, ap, subst, ◌∙◌, arith}
use Rattle.std.specs.Prelude.{All}
use Rattle.std.proofs.lemmas.List.{take_all, take_more}
use Rattle.std.proofs.lemmas.List.Elements.{All-push}
use Rattle.mp_race.specs.declared.told.Told.{Told}
use Rattle.mp_race.specs.Inside.Marks.{IsMarked}
use Rattle.mp_race.proofs.Refusing.{marked-beyond, marked-set, marked-still}
use Rattle.mp_race.proofs.refusals.marks_of.Goals as goal
use Rattle.mp_race.proofs.refusals.marks_of.Goals.{then-task-len, else-task-len}

pub loop-entry-preserved : goal.loop-entry-preserved
loop-entry-preserved c =
    let told : List Told = c.args.told.now in
    let k : ℕ = c.loop-entry.entry-index in
    let t : Told = c.entry-item.result in
    let old = c.loop-entry.marks.items in
    let more : take (k + 1) told ≡ take k told ++ t ∷ [] = take_more told k t c.loop-entry-test.true ∙ ap (λ x. take k told ++ x ∷ []) (sym c.entry-item.is) in
    subst (All (λ (u : Told). IsMarked c.if-task-len.marks.items u.task)) (sym more) (elim c.if-task-len.branch [
      | then-task-len w ↦
          let items : c.if-task-len.marks.items ≡ set old t.task true = rw w.marks-is refl in
          subst (λ marks. All (λ (u : Told). IsMarked marks u.task) (take k told ++ t ∷ [])) (sym items) (
          All-push (λ (u : Told). IsMarked (set old t.task true) u.task) (take k told) t (λ j d lt. marked-still old t.task _ (c.loop-entry.invariant j d lt)) (marked-set old t.task)
          )
      | else-task-len w ↦
          let items : c.if-task-len.marks.items ≡ old = rw w.marks-is refl in
          let beyond : length old ≤ t.task = omega (arith, c.loop-entry.marks.ok.0) in
          subst (λ marks. All (λ (u : Told). IsMarked marks u.task) (take k told ++ t ∷ [])) (sym items) (
          All-push (λ (u : Told). IsMarked old u.task) (take k told) t c.loop-entry.invariant (marked-beyond old t.task beyond)
          )
    ])

pub returns : goal.returns
returns c = subst (All (λ (u : Told). IsMarked c.loop-entry.marks.items u.task)) (take_all c.loop-entry.entry-index c.args.told.now c.loop-entry-test.false) c.loop-entry.invariant
