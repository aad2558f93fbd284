-- What the walks of the store share. Assumes `Logic`.
use mathlib.Core.Path.{◌≡◌, refl, subst}
use mathlib.Core.List.{List, [], ◌∷◌, ◌++◌}
use seplogic.Ra.Ura.{Ura}
use mir.Syntax.{Args, a_type}
use mir.Val.{Val, vstruct, vnil, of_list}
use base.Logic.{ent, sep, emp, via, id⊢, fst∗, snd∗}
use base.Fml.{Fml, Lft}
use types.Logic.{Logic, sem}
use types.Kit.{Item, Goal, Seq, ‵, ◌⊛◌, ◌$◌, ◌∵◌, !, qed, move, drop, use1, use2, split, fsplit, fjoin, fpick, feq_l, done}
use denote.RattleType.{RattleType}
use denote.Param.{param, layouts}
use denote.Param.Laws.{Laws}
use denote.Shadow.{makes_shadow}
use denote.Struct.Struct.{Struct}
use denote.Struct.Owning.{shape}
use denote.Struct.Lending.{lent_at}
use Rattle.lru.proofs.Memory.{mark}
use Rattle.mp_tickets.specs.Inside.Cell.{Cell}
use Rattle.mp_tickets.specs.Inside.Ownership.{boxed, cells_own, cells_lent}
use Rattle.mp_tickets.specs.contracts.node_store.NodeStore as Store-type
use Rattle.mp_tickets.specs.contracts.node_store.NodePtr as Ptr-type
use Rattle.mp_tickets.proofs.Boxes.{RawBox, handle, handle_laws, handle_ghosts}

-- the row of the values
pub record One : Type 2 where
  pub row : RattleType
  pub laws : Laws row

module _ (E : One) where
  abbrev pub args : Args
  args = layouts (a_type ∷ []) (E.row, tt)

  abbrev pub RN : RattleType
  RN = param 0 E.row

  abbrev pub Node : Type 0
  Node = Cell E.row.Denot

  abbrev pub StoreRow : RattleType
  StoreRow = Store-type.the_row RN

  abbrev pub PtrRow : RattleType
  PtrRow = Ptr-type.the_row

  abbrev pub BoxRow : RattleType
  BoxRow = RawBox RN handle handle_laws handle_ghosts

  -- the store's own field, which takes no bytes
  abbrev pub Mark : RattleType
  Mark = Struct (shape (Store-type.the_type RN))

  abbrev pub Block : Node → Fml
  Block c = boxed RN c.at c.value

  abbrev pub Cells : List Node → Fml
  Cells = cells_own RN

pub mark_made : (E : One) {M : Type 1} {𝓤 : Ura M} (𝓛 : Logic 𝓤) → ent 𝓤 (emp 𝓤) (sem 𝓛 ((Mark E).own_val (tt, tt) (mark ∷ [])))
mark_made E 𝓛 = makes_shadow 𝓛 ((Mark E).own_val (tt, tt) (mark ∷ [])) (λ vss. (tt, ((λ uss. (tt, tt)), tt))) ((vstruct vnil ∷ [], tt), (refl, ((tt, (refl, tt)), tt)))

module _ (E : One) {M : Type 1} {𝓤 : Ura M} (𝓛 : Logic 𝓤) where
  pub cells_cut : (xs : List (Node E)) (c : Node E) (ys : List (Node E)) → ent 𝓤 (sem 𝓛 (Cells E (xs ++ c ∷ ys))) (sep 𝓤 (sem 𝓛 (Block E c)) (sem 𝓛 (Cells E (xs ++ ys))))
  cells_cut [] c ys = id⊢ 𝓤 _
  cells_cut (x ∷ xs) c ys = qed 𝓛 (‵ (Cells E (x ∷ xs ++ c ∷ ys)) ∷ []) ∵ fsplit ! $ move ! (1 ∷ []) $
      use1 𝓛 (‵ (Block E c) ⊛ ‵ (Cells E (xs ++ ys))) (cells_cut xs c ys) $ split ! $ move ! (2 ∷ 1 ∷ []) $ fjoin ! $ move ! (1 ∷ []) $ done !

  pub cells_glue : (xs : List (Node E)) (c : Node E) (ys : List (Node E)) → ent 𝓤 (sep 𝓤 (sem 𝓛 (Block E c)) (sem 𝓛 (Cells E (xs ++ ys)))) (sem 𝓛 (Cells E (xs ++ c ∷ ys)))
  cells_glue [] c ys = id⊢ 𝓤 _
  cells_glue (x ∷ xs) c ys = qed 𝓛 (‵ (Block E c) ∷ ‵ (Cells E (x ∷ xs ++ ys)) ∷ []) ∵ move ! (1 ∷ []) $ fsplit ! $ move ! (2 ∷ 1 ∷ []) $
      use2 𝓛 (‵ (Cells E (xs ++ c ∷ ys))) (cells_glue xs c ys) $ move ! (1 ∷ 0 ∷ []) $ fjoin ! $ done !

  pub cell_seen : (κ : Lft) (xs : List (Node E)) (c : Node E) (ys : List (Node E)) → ent 𝓤 (sem 𝓛 (cells_lent (RN E) (xs ++ c ∷ ys) κ)) (sem 𝓛 (lent_at (RN E) c.at c.value κ))
  cell_seen κ [] c ys = fst∗ 𝓤 _ (sem 𝓛 (cells_lent (RN E) ys κ))
  cell_seen κ (x ∷ xs) c ys = via 𝓤 _ (snd∗ 𝓤 (sem 𝓛 (lent_at (RN E) x.at x.value κ)) _) (cell_seen κ xs c ys)
