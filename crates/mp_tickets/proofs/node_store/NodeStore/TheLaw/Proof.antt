-- A `&` to the store reaches each value. Assumes `Logic`.
use mathlib.Core.List.{[], ◌++◌}
use base.Fml.{Incl-trans}
use contract.BorrowLft.{meet_⊑_left}
use denote.RattleType.{RattleType}
use denote.RawPtr.{RawPtr}
use denote.Param.Laws.{Laws}
use denote.Param.Shared.{copy_shared}
use denote.Struct.Laws.{field_copy}
use denote.Struct.Lending.{of_Lends}
use Rattle.core.specs.contracts.marker.PhantomData as marker
use Rattle.mp_tickets.specs.contracts.node_store.NodeStore as C
use Rattle.mp_tickets.proofs.node_store.NodeStore.TheLaw.Statement.{statement}
use Rattle.mp_tickets.proofs.Sharing.{cells_lent_laws, Lends-cells}

pub shares : (N : RattleType) (L : Laws N) → statement N L
shares N L = of_Lends (C.struct N) (C.the_codes N.Denot N.coded (marker.the_row RawPtr).coded) (C.the_heap N) (C.the_lent N)
    (λ d p. cells_lent_laws N L.shr_laws d.cells) (copy_shared (marker.the_field RawPtr) (field_copy (marker.the_type RawPtr) tt), tt)
    (λ M 𝓤 𝓛 d p. Lends-cells 𝓛 (C.the_row N).lives N L (Incl-trans (meet_⊑_left (N.lives ++ []) _) (meet_⊑_left N.lives [])) d.cells)
