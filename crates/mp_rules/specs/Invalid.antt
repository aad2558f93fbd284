-- The numbers of faults.
use Rattle.std.specs.Prelude.{ℕ, Option, None, Some}
use Rattle.mp_rules.specs.declared.invalid.Invalid.{Invalid}
use Rattle.mp_rules.specs.Validity.{Rule, row}
use Rattle.mp_rules.specs.FirstFault.{rule_of}

abbrev number_of : Option Rule → ℕ
number_of None = 1
number_of (Some rule) = (row rule).number

-- the number of its rule, or 1 for an allocation failure
abbrev pub number : Invalid → ℕ
number fault = number_of (rule_of fault)
