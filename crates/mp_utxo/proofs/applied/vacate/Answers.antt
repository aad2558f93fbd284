use Rattle.std.specs.Option.{option_map}
use Rattle.std.specs.Arc.{arc_value}
use Rattle.std.proofs.lemmas.List.{map-set}
use Rattle.mp_utxo.specs.declared.applied.Applied.{Applied}
use Rattle.mp_utxo.specs.Inside.Applied.{item}
use Rattle.mp_utxo.proofs.applied.vacate.Goals as goal

pub returns-clause-places : goal.returns-clause-places
returns-clause-places c = map-set (λ (a : Applied). option_map arc_value a.tx) c.args.applied.now.items c.args.place _

pub returns-clause-slots : goal.returns-clause-slots
returns-clause-slots c = map-set item c.args.applied.now.items c.args.place _
