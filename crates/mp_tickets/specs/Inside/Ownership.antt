-- What a store owns and lends, at values of the row N.
use Rattle.std.specs.Prelude.{List, [], ◌∷◌}
use mir.Syntax.{Ty}
use base.Fml.{Lft, Fml, ftrue, fsep}
use denote.RattleType.{RattleType}
use denote.RawPtr.{Ptr}
use denote.Sharing.{nothing, beside}
use denote.Struct.Lending.{lent_at}
use Rattle.std_alloc.specs.Box.Ownership.{box_owns}
use Rattle.std_heap.specs.declared.Global.{Global}
use Rattle.std_heap.specs.contracts.GlobalAllocator.TheImpl.{ghosts}
use Rattle.mp_tickets.specs.Inside.Cell.{Cell}

abbrev pub the_global : Global
the_global = record { memory = record { seal = tt } }

-- the right to free a block, which is the same for every handle
abbrev pub free_token : Ty → Ptr → Fml
free_token = ghosts.dealloc_token the_global

module _ (N : RattleType) where
  -- the value x in a block of its own at p
  abbrev pub boxed : Ptr → N.Denot → Fml
  boxed = box_owns free_token N

  abbrev pub cells_own : List (Cell N.Denot) → Fml
  cells_own [] = ftrue
  cells_own (c ∷ cs) = fsep (boxed c.at c.value) (cells_own cs)

  abbrev pub cells_lent : List (Cell N.Denot) → Lft → Fml
  cells_lent [] = nothing
  cells_lent (c ∷ cs) = beside (lent_at N c.at c.value) (cells_lent cs)
