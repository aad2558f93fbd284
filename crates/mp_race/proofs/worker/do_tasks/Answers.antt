use Rattle.std.proofs.Common.{◌≡◌, ℕ, ◌+◌, ◌%◌, List, [], ◌∷◌, ◌++◌, take, length, true, false, sym, ap, subst, ◌∙◌, arith}
use Rattle.std.specs.Prelude.{◌==◌}
use Rattle.std.proofs.lemmas.List.{take_all, take_more, length-take-le, length-map, map-append}
use Rattle.mp_history.proofs.Law.{eqb-refl}
use Rattle.mp_mempool.specs.Pass.{Pass}
use Rattle.mp_race.specs.declared.task.Task.{Task}
use Rattle.mp_race.specs.Inside.Task.{task_of, tasks_of}
use Rattle.mp_race.specs.Inside.Work.{HasMade}
use Rattle.mp_race.proofs.Ordered.{apart}
use Rattle.mp_race.proofs.Working.{does, skips, same_caller}
use Rattle.mp_race.proofs.worker.do_tasks.Goals as goal
use Rattle.mp_race.proofs.worker.do_tasks.Goals.{then-place-workers+in_ok-is_sure+else-not-is_sure, else-place-workers}

pub loop-place-preserved : goal.loop-place-preserved
loop-place-preserved g c = λ opening unused.
    let accepts = g.N.PoolName.accepts in
    let callers = g.N.PoolName.callers in
    let workers : ℕ = c.args.workers in
    let ts : List Task = c.args.tasks.now in
    let k : ℕ = c.loop-place.place in
    let d : Task = c.index-tasks-place.result in
    let p = c.loop-place.pass in
    let ds = c.loop-place.done.items in
    let rs = c.loop-place.refused.items in
    let before = tasks_of (take k ts) in
    let h = c.loop-place.invariant opening unused in
    let more : take (k + 1) ts ≡ take k ts ++ d ∷ [] = take_more ts k d c.loop-place-test.true ∙ ap (λ x. take k ts ++ x ∷ []) (sym c.index-tasks-place.is) in
    let tasks_more : tasks_of (take (k + 1) ts) ≡ before ++ task_of d ∷ [] = ap tasks_of more ∙ map-append task_of (take k ts) (d ∷ []) in
    let len : length before ≡ k = length-map (take k ts) task_of ∙ length-take-le k ts (omega (arith, c.loop-place-test.true)) in
    elim c.if-place-workers.branch [
      | then-place-workers+in_ok-is_sure+else-not-is_sure w ↦
          let its : (length before % workers == p.caller) ≡ true =
          subst (λ n. (n % workers == p.caller) ≡ true) (sym len) (subst (λ n. (k % workers == n) ≡ true) (w.if-place-workers.true ∙ sym h.1) (eqb-refl (k % workers))) in
          let did = w.in_ok-is_sure.ensures w.if-not-is_sure.false in
          let after : HasMade accepts workers opening (before ++ task_of d ∷ []) w.do_task.new.pass w.do_task.new.done.items w.do_task.new.refused.items =
          does accepts callers workers opening before p ds rs h.0 k (task_of d) w.do_task.new.pass w.do_task.new.done.items w.do_task.new.refused.items (sym len) its did in (
            subst (λ l. HasMade accepts workers opening l c.if-place-workers.pass c.if-place-workers.done.items c.if-place-workers.refused.items) (sym tasks_more) (
                subst (λ q. HasMade accepts workers opening (before ++ task_of d ∷ []) q c.if-place-workers.done.items c.if-place-workers.refused.items) (sym w.pass-is) (
                subst (λ es. HasMade accepts workers opening (before ++ task_of d ∷ []) w.do_task.new.pass es.items c.if-place-workers.refused.items) (sym w.done-is)
                (subst (λ ss. HasMade accepts workers opening (before ++ task_of d ∷ []) w.do_task.new.pass w.do_task.new.done.items ss.items) (sym w.refused-is) after)
                )
                ),
            ap (λ (q : Pass). q.caller) w.pass-is ∙ same_caller accepts callers workers opening p ds rs k (task_of d) w.do_task.new.pass w.do_task.new.done.items w.do_task.new.refused.items did ∙ h.1,
          )
      | else-place-workers w ↦
          let others : (length before % workers == p.caller) ≡ false =
          subst (λ n. (n % workers == p.caller) ≡ false) (sym len) (apart (k % workers) p.caller (λ same. w.if-place-workers.false (sym same ∙ h.1))) in
          let after : HasMade accepts workers opening (before ++ task_of d ∷ []) p ds rs = skips accepts callers workers opening before (task_of d) p ds rs others h.0 in (
            subst (λ l. HasMade accepts workers opening l c.if-place-workers.pass c.if-place-workers.done.items c.if-place-workers.refused.items) (sym tasks_more) (
                subst (λ q. HasMade accepts workers opening (before ++ task_of d ∷ []) q c.if-place-workers.done.items c.if-place-workers.refused.items) (sym w.pass-is) (
                subst (λ es. HasMade accepts workers opening (before ++ task_of d ∷ []) p es.items c.if-place-workers.refused.items) (sym w.done-is)
                (subst (λ ss. HasMade accepts workers opening (before ++ task_of d ∷ []) p ds ss.items) (sym w.refused-is) after)
                )
                ),
            ap (λ (q : Pass). q.caller) w.pass-is ∙ h.1,
          )
    ]

pub returns : goal.returns
returns g c = λ opening unused sure.
    let ts : List Task = c.args.tasks.now in
    subst (λ l. HasMade g.N.PoolName.accepts c.args.workers opening (tasks_of l) c.loop-place.pass c.loop-place.done.items c.loop-place.refused.items)
    (take_all c.loop-place.place ts c.loop-place-test.false) (c.loop-place.invariant opening unused).0
