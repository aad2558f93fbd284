-- The result of a race.
use Rattle.std.specs.Prelude.{◌≡◌, ℕ, length, All}
use Rattle.mp_rules.specs.Verifier.{Accepts}
use Rattle.mp_history.specs.Log.{Log}
use Rattle.mp_mempool.specs.Opening.{fresh_log}
use Rattle.mp_race.specs.declared.racing.Raced.{Raced}
use Rattle.mp_race.specs.Scenario.{Scenario}
use Rattle.mp_race.specs.Race.{IsRace}
use Rattle.mp_race.specs.Report.{report_of}
use Rattle.mp_race.specs.History.{AreEntriesOf}
use Rattle.mp_race.specs.Refusals.{IsRefusal, AreInOrder, IsUntold}

-- The race has one legal history. The report is about it, and the records are its entries, one by one. Each of the other changes
-- is listed as refused, once: as many as the report says.
pub record IsRaced (accepts : Accepts) (workers : ℕ) (s : Scenario) (r : Raced) : Type 0 where
  pub log : Log
  pub race : IsRace accepts (fresh_log s.config s.ledger).opening workers s.tasks log
  pub report : r.report ≡ report_of accepts workers s.tasks log
  pub told : AreEntriesOf workers s.tasks r.history.told.items log.entries
  pub refusals : All (IsRefusal accepts workers s.tasks log) r.refused.items
  pub order : AreInOrder 0 r.refused.items
  pub others : All (IsUntold r.history.told.items) r.refused.items
  pub number : length r.refused.items ≡ r.report.refused
