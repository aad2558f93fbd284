-- The name with which the example's pool is opened.
use Rattle.std.specs.Prelude.{false}
use Rattle.mp_rules.specs.Verifier.{Accepts}

-- no signature is good
abbrev pub nobody : Accepts
nobody key id sig = false
