-- How contracts see the outputs that a transaction names, and how many there are.
use Rattle.std.specs.Prelude.{◌≤◌, length}
use Rattle.mp_rules.specs.declared.resolved.Resolved.TheInside.{Inside}
use Rattle.mp_rules.specs.Resolved.{Resolved}

abbrev pub resolved : Inside → Resolved
resolved r = record { spent = r.spent; referenced = r.referenced.items }

-- at most as many as a transaction has inputs and references
pub record IsFew (r : Inside) : Type 0 where
  pub spent : length r.spent ≤ 256
  pub referenced : length r.referenced.items ≤ 256
