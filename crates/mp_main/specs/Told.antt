-- What is reported about a race.
use Rattle.std.specs.Prelude.{ℕ, ◌⊎◌, List, Option, Result, Ok, Err}
use Rattle.std.specs.Io.KnownBytes.{Appends, Keeps}
use Rattle.mp_text.specs.Output.{AppendsFront}
use Rattle.mp_rules.specs.Verifier.{Accepts}
use Rattle.mp_race.specs.declared.racing.Raced.{Raced}
use Rattle.mp_race.specs.declared.report.Report.{Report}
use Rattle.mp_race.specs.Scenario.{Scenario}
use Rattle.mp_race.specs.Raced.{IsRaced}
use Rattle.mp_race.specs.ReportText.{report_text}

-- the whole report is written, or only a prefix of it, if something that was asked for can't be written
abbrev pub IsReported : Report → Option (List ℕ) → Option (List ℕ) → Result (Unit {0}) (Unit {0}) → Type 0
IsReported report old new (Ok u) = Appends old new (report_text report)
IsReported report old new (Err u) = AppendsFront old new (report_text report)

-- The verifier decides which signatures are good.
module _ (accepts : Accepts) where
  -- The report of such a race is written in this way.
  pub record IsTold (workers : ℕ) (s : Scenario) (old new : Option (List ℕ)) (ended : Result (Unit {0}) (Unit {0})) : Type 0 where
    pub raced : Raced
    pub race : IsRaced accepts workers s raced
    pub written : IsReported raced.report old new ended

  -- the report of a race is written, or a prefix of it, or there is no race
  abbrev pub RaceEnds : ℕ → Scenario → Option (List ℕ) → Option (List ℕ) → Result (Unit {0}) (Unit {0}) → Type 0
  RaceEnds workers s old new (Ok u) = IsTold workers s old new (Ok u)
  RaceEnds workers s old new (Err u) = IsTold workers s old new (Err u) ⊎ Keeps old new
