-- How contracts see earlier results.
use Rattle.mp_rules.specs.declared.checked.Checked.TheInside.{Inside}
use Rattle.mp_rules.specs.Checked.{Checked}

abbrev pub checked : Inside → Checked
checked c = record { resolved = c.resolved; signature = c.signature; script = c.script }
