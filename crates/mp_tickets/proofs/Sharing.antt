-- A `&` to a store is one to each of its values. Assumes `Logic`.
use mathlib.Core.List.{List, [], ◌∷◌}
use seplogic.Ra.Ura.{Ura}
use base.Fraction.{full_share}
use base.Fml.{Lft, Incl, ftrue}
use mir.Raw.{raw}
use types.Logic.{Logic}
use denote.RattleType.{RattleType, RowLaws}
use denote.Memory.{lone}
use denote.Param.Laws.{Laws}
use denote.RawPtr.{lies_at}
use denote.Sharing.{ShrLaws}
use denote.SharingLaws.{beside_shr_laws, nothing_shr_laws}
use denote.Shares.{Shares-less}
use denote.Struct.Lending.{Lends, lent_at, lent_at_shr_laws, Lends-lies, Lends-first, Lends-both, Lends-nothing}
use Rattle.mp_tickets.specs.Inside.Cell.{Cell}
use Rattle.mp_tickets.specs.Inside.Ownership.{free_token, boxed, cells_own, cells_lent}

pub cells_lent_laws : (N : RattleType) → RowLaws N → (cs : List (Cell N.Denot)) → ShrLaws (cells_lent N cs)
cells_lent_laws N L [] = nothing_shr_laws
cells_lent_laws N L (c ∷ cs) = beside_shr_laws _ _ (lent_at_shr_laws N L c.at c.value) (cells_lent_laws N L cs)

module _ {M : Type 1} {𝓤 : Ura M} (𝓛 : Logic 𝓤) (l : Lft) (N : RattleType) (L : Laws N) (inc : Incl l N.lives) where
  Lends-cell : (c : Cell N.Denot) → Lends 𝓛 (boxed N c.at c.value) (lent_at N c.at c.value) l
  Lends-cell c =
      Lends-first 𝓛 (lies_at N full_share c.at c.value) (free_token (raw (lone N.mir)) c.at) (lent_at N c.at c.value) l
      (Lends-lies 𝓛 N l c.at c.value (Shares-less 𝓛 N N.lives l inc (L.shares 𝓛) c.value))

  pub Lends-cells : (cs : List (Cell N.Denot)) → Lends 𝓛 (cells_own N cs) (cells_lent N cs) l
  Lends-cells [] = Lends-nothing 𝓛 ftrue l
  Lends-cells (c ∷ cs) = Lends-both 𝓛 (boxed N c.at c.value) (cells_own N cs) (lent_at N c.at c.value) (cells_lent N cs) l (Lends-cell c) (Lends-cells cs)
