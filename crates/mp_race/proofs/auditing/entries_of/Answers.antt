use Rattle.std.proofs.Common.{◌≡◌, ℕ, ◌+◌, ◌<◌, List, [], ◌∷◌, ◌++◌, length, take, get_or, ◌≤◌, sym, ap, subst, ◌∙◌, arith}
use Rattle.std.specs.Prelude.{slice_index_or}
use Rattle.std.proofs.lemmas.List.{take_more, length-take-le, length-append}
use Rattle.std.proofs.lemmas.List.Elements.{at_read}
use Rattle.std.proofs.lemmas.List.Sums.{fold-append}
use Rattle.mp_history.specs.Entry.{Entry}
use Rattle.mp_race.specs.declared.told.Told.{Told}
use Rattle.mp_race.specs.History.{AreEntriesOf, next_after, first_next, next_of}
use Rattle.mp_race.specs.Inside.Task.{tasks_of}
use Rattle.mp_race.specs.Inside.Auditing.{IsUnfit, EndsAt}
use Rattle.mp_race.proofs.Fitting.{one_more}
use Rattle.mp_race.proofs.auditing.entries_of.Goals as goal

pub returns-in-Err : goal.returns-in-Err
returns-in-Err c =
    let told : List Told = c.args.history.now.told.items in
    let workers = c.args.history.now.workers in
    let ts = tasks_of c.args.tasks.now in
    let at : c.loop-place.place ≡ length c.loop-place.entries.items = sym c.loop-place.invariant.1 in
    let same = c.as_slice-told-items.ensures.value in
    let there : c.loop-place.place < length told = subst (λ (l : List Told). c.loop-place.place < length l) same c.loop-place-test.true in
    let is : c.told-item.result ≡ slice_index_or told c.loop-place.place c.told-item.result = subst (λ (l : List Told). c.told-item.result ≡ slice_index_or l c.loop-place.place c.told-item.result) same c.told-item.is in
    let unfit = at_read told (λ t. IsUnfit workers ts (next_of (take c.loop-place.place told)) c.loop-place.place t c.in-Err.fault) c.loop-place.place c.told-item.result there is (subst (λ l. IsUnfit workers ts l c.loop-place.place c.told-item.result c.in-Err.fault) c.loop-place.invariant.2 c.in-Err.ensures.unfit) in
    record {
      entries = subst (λ n. AreEntriesOf workers ts (take n told) c.loop-place.entries.items) at c.loop-place.invariant.0;
      all = tt;
      ends = subst (λ n. EndsAt workers ts told n c.in-Err.fault) at (record { there = there; unfit = unfit });
    }

pub loop-place-preserved : goal.loop-place-preserved
loop-place-preserved c =
    let told : List Told = c.args.history.now.told.items in
    let k : ℕ = c.loop-place.place in
    let t : Told = c.told-item.result in
    let e : Entry = c.in-Ok.entry in
    let workers = c.args.history.now.workers in
    let ts = tasks_of c.args.tasks.now in
    let same = c.as_slice-told-items.ensures.value in
    let there : k < length told = subst (λ (l : List Told). k < length l) same c.loop-place-test.true in
    let is : t ≡ slice_index_or told k t = subst (λ (l : List Told). t ≡ slice_index_or l k t) same c.told-item.is in
    let more : take (k + 1) told ≡ take k told ++ t ∷ [] = take_more told k t there ∙ ap (λ x. take k told ++ x ∷ []) (sym is) in
    let at : t.place ≡ length (take k told) = c.in-Ok.ensures.place ∙ sym (length-take-le k told (omega (arith, there))) in
    let turn = subst (λ l. get_or l t.worker 0 ≤ t.task) c.loop-place.invariant.2 c.in-Ok.ensures.turn in
    let pushed = c.in_ok-push-in-Ok.ensures.items in (
      subst (λ es. AreEntriesOf workers ts (take (k + 1) told) es) (sym pushed)
          (subst (λ l. AreEntriesOf workers ts l (c.loop-place.entries.items ++ e ∷ [])) (sym more) (one_more workers ts (take k told) c.loop-place.entries.items t e c.loop-place.invariant.0 c.in-Ok.ensures.entry at turn)),
      ap length pushed ∙ pushed_length c.loop-place.entries.items e ∙ ap (λ n. n + 1) c.loop-place.invariant.1,
      ap (λ l. next_after l t) c.loop-place.invariant.2 ∙ sym (fold-append next_after first_next (take k told) (t ∷ [])) ∙ sym (ap next_of more),
    )
  where
    pushed_length : (es : List Entry) (e : Entry) → length (es ++ e ∷ []) ≡ length es + 1
    pushed_length es e = length-append es (e ∷ [])
