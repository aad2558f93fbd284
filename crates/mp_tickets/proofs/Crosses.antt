-- A store may be sent between threads if its values may.
use Rattle.std.specs.Prelude.{List, [], ◌∷◌}
use mir.Raw.{raw}
use base.Shift.{Keyless}
use denote.RattleType.{RattleType}
use denote.Memory.{lone}
use denote.Struct.Struct.{exits_of}
use denote.Struct.Owning.{fields, to, shape}
use denote.Param.Send.{IsSend, IsSync, Common, AllSend, owning_send, struct_send, struct_sync, sendable}
use Rattle.std.proofs.Crossing.{frees}
use Rattle.std_alloc.proofs.SendSync.{quiet, lies, seen}
use Rattle.mp_tickets.specs.Inside.Cell.{Cell}
use Rattle.mp_tickets.specs.Inside.Ownership.{the_global, cells_own, cells_lent}
use Rattle.mp_tickets.specs.contracts.node_store.NodeStore as NodeStore

module _ (N : RattleType) where
  cells-Keyless : IsSend N → (cs : List (Cell N.Denot)) → Keyless (cells_own N cs)
  cells-Keyless s [] = tt
  cells-Keyless s (c ∷ cs) = ((lies N s c.at c.value, frees.frees the_global (raw (lone N.mir)) c.at), cells-Keyless s cs)

  cells_lent-Common : IsSync N → (cs : List (Cell N.Denot)) → Common (cells_lent N cs)
  cells_lent-Common y [] κ = tt
  cells_lent-Common y (c ∷ cs) κ = (seen N y c.at c.value κ, cells_lent-Common y cs κ)

  pub NodeStore-send : IsSend N → IsSend (NodeStore.the_row N)
  NodeStore-send s =
      let O = NodeStore.the_type N in let all : AllSend (fields O) = (search sendable, tt) in
      owning_send O all (λ d. cells-Keyless s d.cells) (λ k. quiet (to O) (exits_of k (fields O)) ((struct_send (shape O) all).leaving k))

  pub NodeStore-sync : IsSync N → IsSync (NodeStore.the_row N)
  NodeStore-sync y = let O = NodeStore.the_type N in record {
    shared = λ d b o κ. ((struct_sync (shape O) (search sendable, tt)).shared (to O d) b o κ, cells_lent-Common y d.cells κ);
  }
