use Rattle.std.proofs.Common.{◌≡◌, ◌<◌, ◌^◌, drop}
use Rattle.mp_text.specs.Numbers.{value_of_digits}
use Rattle.mp_text.proofs.DigitValue.{completed}
use Rattle.mp_text.proofs.numbers.value.Given as goal

-- the number so far and the digits left denote what all digits do
abbrev pub invariant-loop-digit : goal.invariant-loop-digit
invariant-loop-digit l = record { fits : l.number < 2 ^ 64; same : completed l.number (drop l.digit-index l.digits) ≡ value_of_digits l.digits }
