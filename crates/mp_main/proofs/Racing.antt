-- The end of a race.
use Rattle.std.proofs.Common.{◌≡◌, ℕ, ◌<◌, List, [], ◌∷◌, ◌++◌, length, length-append, sym, ◌∙◌, append-nil, arith, codes}
use Rattle.std.specs.Prelude.{Option, None, Some, Result, Ok, Err}
use Rattle.std.specs.Io.KnownBytes.{Keeps}
use mathlib.Core.Logic.{inl}
use Rattle.mp_text.specs.Output.{AppendsFront}
use Rattle.mp_rules.specs.Verifier.{Accepts}
use Rattle.mp_race.specs.declared.fault.RaceFault.{RaceFault}
use Rattle.mp_race.specs.declared.fault.RaceFault.TheVariants.{NoMemory, BadLine, ReadFault, WriteFault, Audit, MissingEntry}
use Rattle.mp_race.specs.declared.racing.Raced.{Raced}
use Rattle.mp_race.specs.declared.report.Report.{Report}
use Rattle.mp_race.specs.Scenario.{Scenario}
use Rattle.mp_race.specs.Raced.{IsRaced}
use Rattle.mp_race.specs.ReportText.{and_then, numbers_text, report_text, IsWritten}
use Rattle.mp_main.specs.Status.{EndsAs}
use Rattle.mp_main.specs.Told.{IsReported, RaceEnds}
use Rattle.mp_main.proofs.Ends.{keeps}

-- nothing is a prefix of some bytes
front_of_none : (old new : Option (List ℕ)) (bytes : List ℕ) → 0 < length bytes → Keeps old new → AppendsFront old new bytes
front_of_none None new bytes some kept = (0, some, tt)
front_of_none (Some xs) None bytes some kept = absurd kept
front_of_none (Some xs) (Some ys) bytes some kept = (0, some, kept ∙ sym (append-nil xs))

some_report : (r : Report) → 0 < length (report_text r)
some_report r =
    let len = length-append (and_then (and_then (numbers_text r) (codes " entries") r.entries) (codes " last") r.last) (10 ∷ codes "audit legal" ++ 10 ∷ []) in
    omega (arith, len)

pub none_written : (r : Report) (known : Option (List ℕ)) → AppendsFront known known (report_text r)
none_written r known = front_of_none known known (report_text r) (some_report r) (keeps known)

pub part_written : (r : Report) (old new : Option (List ℕ)) (fault : RaceFault) → IsWritten r old new (Err fault) → AppendsFront old new (report_text r)
part_written r old new NoMemory is = front_of_none old new (report_text r) (some_report r) is
part_written r old new (BadLine line) is = absurd is
part_written r old new ReadFault is = absurd is
part_written r old new WriteFault is = is
part_written r old new (Audit fault) is = absurd is
part_written r old new (MissingEntry place) is = absurd is

module _ (accepts : Accepts) (workers : ℕ) (s : Scenario) (r : Raced) (old new : Option (List ℕ)) where
  told : (x : Result (Unit {0}) (Unit {0})) → IsRaced accepts workers s r → IsReported r.report old new x → RaceEnds accepts workers s old new x
  told (Ok u) is written = record { raced = r; race = is; written = written }
  told (Err u) is written = inl (record { raced = r; race = is; written = written })

  -- the report is written in this way
  pub raced_ends : (status : ℕ) → IsRaced accepts workers s r → EndsAs (IsReported r.report old new) status → EndsAs (RaceEnds accepts workers s old new) status
  raced_ends status is ends = (ends.0, told ends.0 is ends.1, ends.2)
