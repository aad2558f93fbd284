-- What the code returns for a line or a part of one.
use Rattle.std.specs.Prelude.{◌≡◌, Option, None, Some, Result, Ok, Err}
use Rattle.mp_names.specs.declared.fault.LineFault.{LineFault}
use Rattle.mp_names.specs.declared.fault.LineFault.TheVariants.{NoMemory, Bad}

-- If something is wanted, the result is that, as contracts see it; otherwise the line is bad. Any allocation may fail instead.
abbrev pub Gives : {X Y : Type 0} → (X → Y) → Option Y → Result X LineFault → Type 0
Gives view wanted (Ok x) = wanted ≡ Some (view x)
Gives view wanted (Err NoMemory) = Unit {0}
Gives view wanted (Err (Bad reason)) = wanted ≡ None

-- the same for a result that contracts see as it is
abbrev pub Reads : {X : Type 0} → Option X → Result X LineFault → Type 0
Reads wanted result = Gives (λ x. x) wanted result

-- the line is bad, for whatever reason
abbrev pub IsBad : {X : Type 0} → Result X LineFault → Type 0
IsBad (Ok x) = ⊥
IsBad (Err NoMemory) = ⊥
IsBad (Err (Bad reason)) = Unit {0}
