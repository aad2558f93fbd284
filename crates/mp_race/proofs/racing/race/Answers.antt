use Rattle.std.proofs.Common.{sym, subst, ◌∙◌}
use Rattle.std.specs.Prelude.{All}
use Rattle.std.proofs.lemmas.List.Sorted.{All-permutation}
use Rattle.mp_seqpool.specs.Pool.{Pool}
use Rattle.mp_history.specs.Log.{IsLegal}
use Rattle.mp_mempool.specs.Opening.{fresh_log}
use Rattle.mp_race.specs.Race.{IsRace}
use Rattle.mp_race.specs.History.{AreEntriesOf}
use Rattle.mp_race.specs.Refusals.{IsRefusal, IsUntold}
use Rattle.mp_race.proofs.racing.race.Goals as goal

pub report_on-requires : goal.report_on-requires
report_on-requires g c =
    let s = c.args.scenario.now in
    let opening : Pool = (fresh_log s.config s.ledger).opening in
    let x = c.in_ok-ordered.ensures.history opening s.tasks c.in_ok-gathered.ensures in
    let legal : IsLegal g.N.PoolName.accepts c.args.workers x.log.opening x.log.entries = x.race.legal.legal in
    subst (λ a. IsLegal a c.args.workers opening c.deref-2.result.now) c.requires.accepts (
    subst (λ p. IsLegal g.N.PoolName.accepts c.args.workers p c.deref-2.result.now) x.race.opens
    (subst (IsLegal g.N.PoolName.accepts c.args.workers x.log.opening) (x.entries ∙ sym c.deref-2.ensures.value) legal)
    )

pub returns-clause-raced : goal.returns-clause-raced
returns-clause-raced g c =
    let s = c.args.scenario.now in
    let opening : Pool = (fresh_log s.config s.ledger).opening in
    let x = c.in_ok-ordered.ensures.history opening s.tasks c.in_ok-gathered.ensures in
    record {
      log = x.log;
      race = subst (λ a. IsRace a opening c.args.workers s.tasks x.log) c.requires.accepts x.race;
      report = c.in_ok-report.ensures.report x.log (x.entries ∙ sym c.deref-2.ensures.value) x.race.opens;
      told = subst (AreEntriesOf c.args.workers s.tasks c.in_ok-ordered.ordered.told.items) (sym x.entries) x.told;
      refusals = subst (λ a. All (IsRefusal a c.args.workers s.tasks x.log) c.in_ok-refused.refused.items) c.requires.accepts
          (All-permutation (IsRefusal g.N.PoolName.accepts c.args.workers s.tasks x.log) c.in_ok-ordered.refused.items c.in_ok-refused.refused.items c.in_ok-refused.ensures.same x.refusals);
      order = c.in_ok-refused.ensures.order;
      others = subst (λ l. All (IsUntold l) c.in_ok-refused.refused.items) c.deref-3.ensures.value c.in_ok-refused.ensures.others;
      number = c.in_ok-refused.ensures.number;
    }
