-- How contracts see layers.
use Rattle.std.specs.Prelude.{List, [], Option, None, Some}
use Rattle.std.specs.Arc.{arc_value}
use Rattle.std.specs.declared.sync.Arc.{Arc}
use Rattle.std.specs.declared.vec.Vec.{Vec}
use Rattle.mp_tx.specs.declared.ledger.layers.Layers.TheInside.{Inside}
use Rattle.mp_tx.specs.Inside.Tables.{Layer}

abbrev pub shared_items : {Y Z : Type 0} → Option (Arc (Vec Layer Y) Z) → List Layer
shared_items None = []
shared_items (Some shared) = (arc_value shared).items

abbrev pub layers_of : Inside → List Layer
layers_of l = shared_items l.layers
