use Rattle.std.proofs.Common.{◌<◌, List, ap, length, sym, take, subst, ◌∙◌}
use Rattle.std.specs.Prelude.{All, IfSome}
use Rattle.mp_seqpool.specs.Pool.{Pool}
use Rattle.mp_history.specs.Entry.{Entry}
use Rattle.mp_history.specs.Log.{IsLegal}
use Rattle.mp_mempool.specs.Opening.{fresh_log}
use Rattle.mp_signatures.specs.Scheme.{accepted_by}
use Rattle.mp_race.specs.Task as told
use Rattle.mp_race.specs.History.{AreEntriesOf}
use Rattle.mp_race.specs.Inside.Auditing.{EndsAt}
use Rattle.mp_race.specs.Inside.Task.{tasks_of}
use Rattle.mp_race.proofs.Fitting.{all_known, ended}
use Rattle.mp_race.proofs.auditing.audit_history.Goals as goal

pub replay-requires : goal.replay-requires
replay-requires c =
    let workers = c.args.history.now.workers in
    let lines = c.args.history.now.told.items in
    let es = c.in_ok-entries.field-0.entries.items in
    subst (λ (l : List Entry). All (λ e. e.caller < workers) l) (sym c.deref-2.ensures.value)
    (all_known workers (tasks_of c.deref.result.now) c.requires.some (take (length es) lines) es c.in_ok-entries.ensures.entries)

pub returns-in-Some-clause-fault : goal.returns-in-Some-clause-fault
returns-in-Some-clause-fault c =
    let workers = c.args.history.now.workers in
    let lines = c.args.history.now.told.items in
    let es = c.in_ok-entries.field-0.entries.items in
    let fault = c.in-Some.fault in
    let opening : Pool = (fresh_log c.args.scenario.now.config c.args.scenario.now.ledger).opening in
    let same = ap tasks_of c.deref.ensures.value ∙ ap (λ s. s.tasks) c.scenario.view_is in
    ended workers c.args.scenario.now.tasks (accepted_by c.args.signatures.now) opening lines es fault
    (subst (λ (ts : List told.Task). AreEntriesOf workers ts (take (length es) lines) es) same c.in_ok-entries.ensures.entries)
    (subst (λ (l : List Entry). IsLegal (accepted_by c.args.signatures.now) workers opening l) c.deref-2.ensures.value c.in_ok-replay.ensures.legal)
    (subst (λ (ts : List told.Task). EndsAt workers ts lines (length es) fault) same
    (subst (λ o. IfSome o (EndsAt workers (tasks_of c.deref.result.now) lines (length es))) c.in-Some.is c.in_ok-entries.ensures.ends))
