use denote.RattleType.{RattleType}
use denote.Param.Send.{IsSync}
use Rattle.mp_tickets.proofs.Crosses.{NodeStore-sync}
use Rattle.mp_tickets.specs.contracts.node_store.NodeStore.{the_row}

pub sync : (N : RattleType) → IsSync N → IsSync (the_row N)
sync = NodeStore-sync
