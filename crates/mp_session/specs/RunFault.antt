-- The numbers of faults.
use Rattle.std.specs.Prelude.{ℕ}
use Rattle.mp_session.specs.declared.fault.RunFault.{RunFault}
use Rattle.mp_session.specs.declared.fault.RunFault.TheVariants.{NoMemory, BadLine, ReadFault, WriteFault}

abbrev pub number : RunFault → ℕ
number NoMemory = 1
number (BadLine line) = 2
number ReadFault = 3
number WriteFault = 4
