use denote.RattleType.{RattleType}
use denote.Param.Send.{IsSend}
use Rattle.mp_tickets.proofs.Crosses.{NodeStore-send}
use Rattle.mp_tickets.specs.contracts.node_store.NodeStore.{the_row}

pub send : (N : RattleType) → IsSend N → IsSend (the_row N)
send = NodeStore-send
