-- The exit status of the program.
use Rattle.std.specs.Prelude.{◌≡◌, ℕ, List, Option, Result, Ok, Err}
use Rattle.mp_signatures.specs.declared.scheme.Scheme.{Scheme}
use Rattle.mp_session.specs.declared.fault.RunFault.{RunFault}
use Rattle.mp_session.specs.Ending.{Ended}

-- 0, or 1 after a fault
abbrev pub status_of : Result (Unit {0}) RunFault → ℕ
status_of (Ok u) = 0
status_of (Err fault) = 1

-- the run of these bytes, whose pool accepts the scheme's signatures, ends somehow, and the status says how
abbrev pub EndsAs : Scheme → List ℕ → Option (List ℕ) → Option (List ℕ) → ℕ → Type 0
EndsAs scheme bytes old new status = (ended : Result (Unit {0}) RunFault) × Ended scheme bytes old new ended × (status ≡ status_of ended)
