-- What `Names` stores.
use Rattle.mp_names.specs.declared.names.Names.TheInside.{Inside}
use Rattle.mp_names.specs.Names.{Names}

abbrev pub names_of : Inside → Names
names_of n = record { bindings = n.bindings; reported = n.reported; scripts = n.scripts; datums = n.datums; by_id = n.by_id }
