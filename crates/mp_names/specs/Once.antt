-- What may occur at most once.
use Rattle.std.specs.Prelude.{Option, None, Some}

-- the value, if none was set before
abbrev pub set_once : {X : Type 0} → Option X → X → Option (Option X)
set_once None x = Some (Some x)
set_once (Some y) x = None
