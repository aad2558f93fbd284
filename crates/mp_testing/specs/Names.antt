-- The names with which the pools of the tests are opened.
use Rattle.std.specs.Prelude.{true}
use Rattle.mp_rules.specs.Verifier.{Accepts}

-- every signature is good
abbrev pub any : Accepts
any key id sig = true
