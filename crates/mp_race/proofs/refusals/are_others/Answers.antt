use Rattle.std.proofs.Common.{◌≡◌, ◌≤◌, ℕ, ◌+◌, List, [], ◌∷◌, ◌++◌, take, get_or, sym, ap, subst, ◌∙◌}
use Rattle.std.specs.Prelude.{All}
use Rattle.std.proofs.lemmas.List.{take_more}
use Rattle.std.proofs.lemmas.List.Elements.{All-push}
use Rattle.mp_race.specs.declared.told.Refused.{Refused}
use Rattle.mp_race.specs.Refusals.{AreInOrder}
use Rattle.mp_race.specs.Inside.Marks.{IsUnmarked}
use Rattle.mp_race.proofs.Refusing.{least_after, one_more, least_more}
use Rattle.mp_race.proofs.refusals.are_others.Goals as goal

pub loop-refusal-preserved : goal.loop-refusal-preserved
loop-refusal-preserved c =
    let rs : List Refused = c.args.refused.now in
    let k : ℕ = c.loop-refusal.refusal-index in
    let d : Refused = record { worker = 0; task = 0; entries = 0 } in
    let r : Refused = get_or rs k d in
    let more : take (k + 1) rs ≡ take k rs ++ r ∷ [] = take_more rs k d c.loop-refusal-test.true in
    let least : least_after 0 (take k rs) ≤ r.task = subst (λ n. n ≤ r.task) c.loop-refusal.invariant.next c.if-refusal-least.false in
    record {
      order = subst (AreInOrder 0) (sym more) (one_more 0 (take k rs) r c.loop-refusal.invariant.order least);
      next = sym (ap (least_after 0) more ∙ least_more 0 (take k rs) r);
      unmarked = subst (All (λ (x : Refused). IsUnmarked c.args.marks.now x.task)) (sym more)
          (All-push (λ (x : Refused). IsUnmarked c.args.marks.now x.task) (take k rs) r c.loop-refusal.invariant.unmarked (c.is_unmarked.ensures.unmarked c.if-not-is_unmarked.false));
    }
