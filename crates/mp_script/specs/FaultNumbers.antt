-- The numbers of the faults.
use Rattle.std.specs.Prelude.{ℕ}
use Rattle.mp_script.specs.declared.fault.DataFault.{DataFault}
use Rattle.mp_script.specs.declared.fault.DataFault.TheVariants as data_faults
use Rattle.mp_script.specs.declared.fault.ScriptFault.{ScriptFault}
use Rattle.mp_script.specs.declared.fault.ScriptFault.TheVariants as script_faults

abbrev pub data_number : DataFault → ℕ
data_number data_faults.NoMemory = 1
data_number data_faults.Truncated = 2
data_number data_faults.BadTag = 3
data_number data_faults.TooDeep = 4
data_number data_faults.Trailing = 5

abbrev pub script_number : ScriptFault → ℕ
script_number script_faults.NoMemory = 1
script_number script_faults.Truncated = 2
script_number script_faults.BadOperator = 3
script_number script_faults.Underflow = 4
script_number script_faults.NotOneExpression = 5
script_number script_faults.TooLong = 6
script_number script_faults.TooDeep = 7
