-- `insert` takes in a value, whose address is new. Assumes `Logic`.
use mathlib.Core.Path.{◌≡◌, refl, sym, subst}
use Prim.Native.Nat.{ℕ, ◌<◌}
use mathlib.Core.List.{List, [], ◌∷◌, ◌++◌, append-nil}
use seplogic.Ra.Ura.{Ura}
use mir.Syntax.{Fn, named}
use mir.MapTy.{inst_fn}
use mir.Val.{Val, vptr}
use base.Logic.{SProp, ent, sep}
use base.Fml.{Lft, GName, Share, ftrue, flft, fobs, fbor}
use prog.Model.{Model}
use prog.Wp.{Calls, Loops, WpFn, Tables}
use types.Logic.{Logic}
use contract.Monad.{fact}
use contract.Running.{tables, tables_of}
use sound.WpLaws.{WpFn-mono}
use types.Kit.{Item, ⋆, ‵, ◌⊛◌, ◌$◌, ◌∵◌, !, qed, by, move, keep, use2, split, join, rewrite, fsplit, fsplit3, fjoin, fjoin3, feq_i, feq_l, suffices, frame, done}
use types.Part.{whole, sub, agg}
use types.Run.{stop, fld, of_opd, and_then, no_more, returns, enter}
use types.ByLocal.{alloc_all, pass_all, free_all, look_at, get, get_in, sets}
use types.SemTy.{Body as Borrowed}
use denote.Exit.{yes, no}
use denote.RattleType.{owns}
use denote.Memory.{mem}
use denote.Param.{layout}
use denote.RawPtr.{Ptr, block_ptr}
use denote.Ref.{MutBor, MutRef}
use denote.Builtin.{RefMutOf}
use denote.Signature.{plain}
use denote.Steps.{nothing, opens, closes}
use denote.Triple.Carry.{spared}
use denote.Triple.Clauses.{Clauses, Ended, closing}
use denote.Triple.Entry.{on_entry}
use denote.Triple.Spec.{Meets, triple_of}
use denote.Triple.Table.{entered, run_framed}
use denote.Triple.Walked.{needs, Stays, stay_dropped, stay_ref, walk_of, ends_at, Goes-ref, walk_Meets}
use Rattle.core.specs.Mem.{type_size}
use Rattle.core.proofs.alloc.Calls.{Goes-blank}
use Rattle.std_alloc.proofs.RcSteps.{word, word-Good, Good}
use Rattle.lru.proofs.Memory.{word_made, knows, says_both}
use Rattle.mp_tickets.specs.Inside.Cell.{cell}
use Rattle.mp_tickets.specs.Inside.Ownership.{boxed}
use Rattle.mp_tickets.proofs.Apart.{IsFresh, apart_with}
use Rattle.mp_tickets.proofs.Boxes.{both, handle, handle_laws, handle_ghosts, raw_box_good, raw_box_out}
use Rattle.mp_tickets.proofs.Fresh.{fresh}
use Rattle.mp_tickets.proofs.Walks.{One, args, RN, Node, StoreRow, PtrRow, BoxRow, Cells, cells_glue}
use Rattle.mp_tickets.specs.contracts.node_store.NodeStore.insert.Key.{name as #self}
use Rattle.mp_tickets.proofs.node_store.NodeStore.insert.Statement as stated
use Rattle.mp_tickets.proofs.node_store.NodeStore.insert.Code as code

module _ (E : One) where
  abbrev function : Fn
  function = inst_fn (args E) code.function

  abbrev ended : Ended
  ended = record { signature = record { lifetimes = 1; outlives = []; params = RefMutOf (0 ∷ []) tt (plain (λ _. StoreRow E)) (λ _. tt) ∷ plain (λ _. BoxRow E) ∷ []; result = plain (λ _. PtrRow E) }; kept = (yes, (no, tt)) }

  abbrev stayed : Stays ended.signature.params ended.kept
  stayed = (stay_ref (0 ∷ []) tt (plain (λ _. StoreRow E)), (stay_dropped (plain (λ _. BoxRow E)) no, tt))

  abbrev Asks : Type 0
  Asks = 0 < type_size (RN E)

  abbrev Gives0 : (BoxRow E).Denot → (PtrRow E).Denot → Type 0
  Gives0 value r = r.at ≡ value.at

  abbrev Gives1 : (StoreRow E).Denot → (BoxRow E).Denot → (StoreRow E).Denot → Type 0
  Gives1 d value new = new.cells ≡ d.cells ++ cell value.at value.value ∷ []

  abbrev spec : {M : Type 1} {𝓤 : Ura M} (𝓛 : Logic 𝓤) → Clauses 𝓤 ended
  spec {𝓤 = 𝓤} 𝓛 κs a = record { ghost = Unit {0}; requires = λ _. fact 𝓤 Asks; ensures = λ _ r w. sep 𝓤 (fact 𝓤 (Gives0 a.1.0 r)) (fact 𝓤 (Gives1 a.0.now a.1.0 w.0.now)) }

module _ (E : One) {M : Type 1} {𝓤 : Ura M} (𝓛 : Logic 𝓤) (𝓜 : Model 𝓤 𝓛.H) (C : Calls 𝓤 𝓛.H) (Λ : Loops 𝓤 𝓛.H) (κ : Lft) (q : Share) (rb ro : ℕ) (γ : GName) (d : (StoreRow E).Denot) (value : (BoxRow E).Denot) (us0 us1 : List Val) where
  open 𝓛 use {H, A}

  abbrev self : MutBor (StoreRow E).Denot
  self = record { ref_ptr = (rb, ro); ghost_name = γ; now = d }

  abbrev bound : (walk_of 𝓛 (ended E) (stayed E) (spec E 𝓛)).Ghost
  bound = (((κ, tt), (q, tt), tt, (self, (value, tt)), (us0, (us1, tt))), tt)

  abbrev Post : Val → SProp 𝓤
  Post = (walk_of 𝓛 (ended E) (stayed E) (spec E 𝓛)).post bound

  exits : us0 ≡ vptr rb ro ∷ [] → (r : (PtrRow E).Denot) (v : Val) (new : (StoreRow E).Denot) → Gives0 E value r → Gives1 E d value new → ent 𝓤 (⋆ 𝓛 (‵ (fobs γ ((StoreRow E).coded.code new)) ∷ ‵ (fbor κ (Borrowed (mem (StoreRow E)) rb ro γ)) ∷ ‵ (flft κ q) ∷ ‵ ((PtrRow E).own_val r (v ∷ [])) ∷ [])) (Post v)
  exits passed r v new g0 g1 =
      qed 𝓛 (‵ (fobs γ ((StoreRow E).coded.code new)) ∷ ‵ (fbor κ (Borrowed (mem (StoreRow E)) rb ro γ)) ∷ ‵ (flft κ q) ∷ ‵ ((PtrRow E).own_val r (v ∷ [])) ∷ []) ∵
      suffices ! _ (ends_at 𝓛 (ended E) (stayed E) (spec E 𝓛) bound v r (new, (tt, tt)) (tt, (tt, tt))) $ says_both ! g0 g1 $
      nothing ! $ move ! (3 ∷ 0 ∷ []) $ join ! $ frame ! $ feq_i ! (List Val) us0 (vptr rb ro ∷ []) passed $ fjoin3 ! $ nothing ! $ nothing ! $ fjoin ! $ move ! (1 ∷ 0 ∷ []) $ fjoin ! $ done !

  abbrev Had : List (Item 𝓤)
  Had = ‵ (fobs γ ((StoreRow E).coded.code d)) ∷ ‵ (fbor κ (Borrowed (mem (StoreRow E)) rb ro γ)) ∷ ‵ (flft κ q) ∷ ‵ (boxed (RN E) value.at value.value) ∷ []

  walk : us0 ≡ vptr rb ro ∷ [] → Asks E → (b o : ℕ) (h : Val) → value.at ≡ block_ptr b o → Good (layout handle) h → ent 𝓤 (⋆ 𝓛 Had) (WpFn 𝓤 H C Λ (function E) (vptr rb ro ∷ both (vptr b o) h ∷ []) Post)
  walk passed asked b o h lies fits =
      let c : Node E = cell value.at value.value in
      let out : (PtrRow E).Denot = record { at = value.at } in
      let w : Val = both (vptr b o) h in
      qed 𝓛 Had ∵ enter ! C Λ (function E) (vptr rb ro ∷ w ∷ []) _ $ alloc_all ! (λ l. pass_all ! refl ((tt, tt), (raw_box_good (RN E) handle handle_laws handle_ghosts b o h fits, tt)) $
      opens ! tt (StoreRow E) {h = d} rb ro (λ vs. move ! (1 ∷ []) $ fsplit ! $ move ! (1 ∷ []) $
      -- [the cells; the mark; its cell; the open borrow; obs; auth; the value]
      move ! (6 ∷ 0 ∷ []) $ knows ! (IsFresh value.at d.cells) (fresh E 𝓛 𝓜 asked value.at value.value d.cells) (λ free.
      let new : (StoreRow E).Denot = record { mark = d.mark; cells = d.cells ++ c ∷ []; apart = apart_with d.cells c free d.apart } in
      rewrite ! 1 (λ (cs : List (Node E)). ‵ (Cells E cs)) (sym (append-nil d.cells)) refl $
      use2 𝓛 (‵ (Cells E (d.cells ++ c ∷ []))) (cells_glue E 𝓛 d.cells c []) $
      sets ! (of_opd ! (get_in ! (fld ! refl (stop !)) (sub ! 0 refl (whole !)))) refl (tt, tt) $
      sets ! (of_opd ! (get ! refl)) refl (tt, tt) $
      sets ! (agg ! (and_then ! (get ! refl) (no_more !))) refl (word-Good [] (block_ptr b o)) $
      move ! (1 ∷ 0 ∷ []) $ fjoin ! $ move ! (1 ∷ 0 ∷ []) $ closes ! tt (StoreRow E) new vs rb ro $
      returns ! (look_at ! 0 refl) $ free_all ! refl $ keep ! (0 ∷ 1 ∷ 2 ∷ []) $ word_made ! value.at $ move ! (1 ∷ 2 ∷ 3 ∷ 0 ∷ []) $
      by ! (subst (λ (p : Ptr). ent 𝓤 (⋆ 𝓛 (‵ (fobs γ ((StoreRow E).coded.code new)) ∷ ‵ (fbor κ (Borrowed (mem (StoreRow E)) rb ro γ)) ∷ ‵ (flft κ q) ∷ ‵ ((PtrRow E).own_val out (word value.at ∷ [])) ∷ [])) (Post (word p))) lies
      (exits passed out (word value.at) new refl refl)))))

  entry : Asks E → ent 𝓤 (on_entry 𝓛 (ended E).signature (κ, tt) (q, tt) (self, (value, tt)) (us0, (us1, tt))) (WpFn 𝓤 H C Λ (function E) (us0 ++ (us1 ++ [])) Post)
  entry asked =
      qed 𝓛 ((‵ (flft κ q) ⊛ ‵ ftrue) ∷ ‵ (owns (MutRef (named 0) κ (StoreRow E) ∷ BoxRow E ∷ []) (self, (value, tt)) (us0, (us1, tt))) ∷ []) ∵
      split ! $ move ! (2 ∷ []) $
      fsplit ! $
      fsplit3 ! $ feq_l ! (λ e0.
      move ! (2 ∷ []) $
      fsplit ! $
      raw_box_out (RN E) handle handle_laws handle_ghosts ! value us1 (λ b o h lies e1 fits. rewrite ! 0 (λ (p : Ptr). ‵ (boxed (RN E) p value.value)) (sym lies) refl $
      keep ! (3 ∷ 4 ∷ 5 ∷ 0 ∷ []) $
      by ! (subst (λ (ws : List Val × List Val). ent 𝓤 (⋆ 𝓛 Had) (WpFn 𝓤 H C Λ (function E) (ws.0 ++ (ws.1 ++ [])) Post)) (λ j. (sym e0 j, sym e1 j)) (walk e0 asked b o h lies fits))))

meets : (E : One) {M : Type 1} {𝓤 : Ura M} (𝓛 : Logic 𝓤) (𝓜 : Model 𝓤 𝓛.H) (𝓣 : Tables 𝓤 𝓛.H)
    → Meets 𝓛 (ended E).signature (WpFn 𝓤 𝓛.H 𝓣.C 𝓣.Λ (function E)) (closing 𝓛 (ended E) (spec E 𝓛))
meets E {𝓤 = 𝓤} 𝓛 𝓜 𝓣 =
    walk_Meets 𝓛 (ended E) (stayed E) (Goes-ref 𝓛 1 0 tt (plain (λ _. StoreRow E)), (Goes-blank 𝓛 1 (plain (λ _. BoxRow E)) no (λ κs x f. tt), tt)) (spec E 𝓛) (WpFn 𝓤 𝓛.H 𝓣.C 𝓣.Λ (function E)) (WpFn-mono 𝓤 𝓛.H 𝓛.laws 𝓣 (function E))
    (λ z. needs 𝓤 (Asks E) _ (entry E 𝓛 𝓜 𝓣.C 𝓣.Λ z.0.0.0 z.0.1.0 z.0.3.0.ref_ptr.0 z.0.3.0.ref_ptr.1 z.0.3.0.ghost_name z.0.3.0.now z.0.3.1.0 z.0.4.0 z.0.4.1.0))

pub insert_spec : {M : Type 1} → stated.statement M
unfolding tables_of
insert_spec 𝓤 𝓛 𝓜 𝓡 wired X LX y =
    let E : One = record { row = X; laws = LX } in
    let 𝓣 : Tables 𝓤 𝓛.H = tables_of 𝓤 𝓛.H 𝓜 (tables 𝓤 𝓛.H 𝓜 𝓡 𝓡.env) in
    let k = #self (args E) in
    spared 𝓛 (ended E).signature (𝓡.run (𝓡.env k)) (run_framed 𝓤 𝓛.H 𝓜 𝓡 (𝓡.env k)) 1 (X.lives, tt) (closing 𝓛 (ended E) (spec E 𝓛))
    (entered 𝓤 𝓛.H (triple_of 𝓛 (ended E).signature (closing 𝓛 (ended E) (spec E 𝓛))) 𝓣.C 𝓣.Λ k (function E) (code.unfolded 𝓤 𝓛.H 𝓜 𝓡 wired (X, tt)) (meets E 𝓛 𝓜 𝓣))
    ((y.0.0, y.0.1, tt, y.0.3, y.0.4), y.1)
