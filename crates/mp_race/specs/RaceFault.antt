-- The numbers of faults, and those with which a race may end.
use Rattle.std.specs.Prelude.{ℕ}
use Rattle.mp_race.specs.declared.fault.RaceFault.{RaceFault}
use Rattle.mp_race.specs.declared.fault.RaceFault.TheVariants.{NoMemory, BadLine, ReadFault, WriteFault, Audit, MissingEntry}

abbrev pub number : RaceFault → ℕ
number NoMemory = 1
number (BadLine line) = 2
number ReadFault = 3
number WriteFault = 4
number (Audit fault) = 5
number (MissingEntry place) = 6

-- A race reports nothing about what was read before it, and its history is legal.
abbrev pub IsOfRace : RaceFault → Type 0
IsOfRace NoMemory = Unit {0}
IsOfRace (BadLine line) = ⊥
IsOfRace ReadFault = ⊥
IsOfRace WriteFault = ⊥
IsOfRace (Audit fault) = ⊥
IsOfRace (MissingEntry place) = Unit {0}
