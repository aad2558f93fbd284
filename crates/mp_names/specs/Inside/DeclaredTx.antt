-- What a declared transaction stores.
use Rattle.std.specs.Arc.{arc_value}
use Rattle.mp_names.specs.declared.declared_tx.DeclaredTx.TheInside.{Inside}
use Rattle.mp_names.specs.DeclaredTx.{DeclaredTx}

abbrev pub declared_tx : Inside → DeclaredTx
declared_tx t = record { tx = arc_value t.tx; payments = t.payments.items }
