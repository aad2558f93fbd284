-- `remove` returns one cell. Assumes `Logic`.
use mathlib.Core.Path.{◌≡◌, refl, sym, ap, subst, ◌∙◌}
use Prim.Native.Nat.{ℕ}
use mathlib.Core.List.{List, [], ◌∷◌, ◌++◌}
use seplogic.Ra.Ura.{Ura}
use mir.Syntax.{Fn, named}
use mir.MapTy.{inst_fn}
use mir.Val.{Val, vptr}
use mir.Raw.{raw as bare}
use base.Logic.{SProp, ent, never, fst∗}
use base.Fml.{Lft, GName, Share, ftrue, flft, fobs, fbor}
use prog.Wp.{Calls, Loops, WpFn, Tables}
use types.Logic.{Logic, sem}
use contract.Monad.{fact}
use contract.Running.{tables, tables_of}
use sound.WpLaws.{WpFn-mono}
use types.Kit.{Item, ⋆, ‵, ◌⊛◌, ◌$◌, ◌∵◌, !, qed, by, move, keep, use1, split, join, rewrite, fsplit, fsplit3, fjoin, fjoin3, feq_i, feq_l, suffices, frame, done}
use types.Part.{whole, sub, agg}
use types.Run.{stop, fld, of_opd, and_then, no_more, returns, enter}
use types.ByLocal.{alloc_all, pass_all, free_all, look_at, get, get_in, sets, is}
use types.SemTy.{Body as Borrowed}
use denote.Exit.{yes}
use denote.RattleType.{owns}
use denote.Memory.{mem, lone}
use denote.Param.{layout}
use denote.RawPtr.{Ptr, block_ptr, null_ptr, ptr_val, in_a_block}
use denote.Ref.{MutBor, MutRef}
use denote.Builtin.{RefMutOf}
use denote.Signature.{plain}
use denote.Steps.{nothing, opens, closes}
use denote.Triple.Carry.{spared}
use denote.Triple.Clauses.{Clauses, Ended, closing}
use denote.Triple.Entry.{on_entry}
use denote.Triple.Spec.{Meets, triple_of}
use denote.Triple.Table.{entered, run_framed}
use denote.Triple.Walked.{says, needs, Stays, stay_dropped, stay_ref, walk_of, ends_at, Goes-dropped, Goes-ref, walk_Meets}
use Rattle.std_alloc.proofs.RcSteps.{word, word-Good, Good}
use Rattle.lru.specs.Linked.{IsApart}
use Rattle.lru.proofs.Memory.{word_had}
use Rattle.mp_tickets.specs.Inside.Cell.{cell, ptrs, IsAt, AtCell}
use Rattle.core.proofs.alloc.Calls.{handle_tells}
use Rattle.mp_tickets.specs.Inside.Ownership.{boxed, free_token}
use Rattle.mp_tickets.proofs.Boxes.{both, handle, handle_laws, handle_ghosts, al, raw_box_good, raw_box_in}
use Rattle.mp_tickets.proofs.Apart.{same_cell, apart_without}
use Rattle.mp_tickets.proofs.Walks.{One, args, RN, Node, StoreRow, PtrRow, BoxRow, Block, Cells, cells_cut}
use Rattle.mp_tickets.specs.contracts.node_store.NodeStore.remove.Key.{name as #self}
use Rattle.mp_tickets.proofs.node_store.NodeStore.remove.Statement as stated
use Rattle.mp_tickets.proofs.node_store.NodeStore.remove.Code as code

module _ (E : One) where
  abbrev function : Fn
  function = inst_fn (args E) code.function

  abbrev ended : Ended
  ended = record { signature = record { lifetimes = 1; outlives = []; params = RefMutOf (0 ∷ []) tt (plain (λ _. StoreRow E)) (λ _. tt) ∷ plain (λ _. PtrRow E) ∷ plain (λ _. handle) ∷ []; result = plain (λ _. BoxRow E) }; kept = (yes, (yes, (yes, tt))) }

  abbrev stayed : Stays ended.signature.params ended.kept
  stayed = (stay_ref (0 ∷ []) tt (plain (λ _. StoreRow E)), (stay_dropped (plain (λ _. PtrRow E)) yes, (stay_dropped (plain (λ _. handle)) yes, tt)))

  abbrev Asks : (StoreRow E).Denot → (PtrRow E).Denot → Type 0
  Asks d ptr = IsAt d.cells ptr.at

  abbrev Gives0 : (StoreRow E).Denot → (PtrRow E).Denot → (BoxRow E).Denot → (StoreRow E).Denot → Type 0
  Gives0 d ptr r new = AtCell d.cells ptr.at (λ xs c ys. (new.cells ≡ xs ++ ys) × (c ≡ cell r.at r.value))

  abbrev spec : {M : Type 1} {𝓤 : Ura M} (𝓛 : Logic 𝓤) → Clauses 𝓤 ended
  spec {𝓤 = 𝓤} 𝓛 κs a = record { ghost = Unit {0}; requires = λ _. fact 𝓤 (Asks a.0.now a.1.0); ensures = λ _ r w. fact 𝓤 (Gives0 a.0.now a.1.0 r w.0.now) }

module _ (E : One) {M : Type 1} {𝓤 : Ura M} (𝓛 : Logic 𝓤) (C : Calls 𝓤 𝓛.H) (Λ : Loops 𝓤 𝓛.H) (κ : Lft) (q : Share) (rb ro : ℕ) (γ : GName) (d : (StoreRow E).Denot) (ptr : (PtrRow E).Denot) (memory : handle.Denot) (us0 us1 us2 : List Val) where
  open 𝓛 use {H, A}

  abbrev self : MutBor (StoreRow E).Denot
  self = record { ref_ptr = (rb, ro); ghost_name = γ; now = d }

  abbrev bound : (walk_of 𝓛 (ended E) (stayed E) (spec E 𝓛)).Ghost
  bound = (((κ, tt), (q, tt), tt, (self, (ptr, (memory, tt))), (us0, (us1, (us2, tt)))), tt)

  abbrev Post : Val → SProp 𝓤
  Post = (walk_of 𝓛 (ended E) (stayed E) (spec E 𝓛)).post bound

  exits : us0 ≡ vptr rb ro ∷ [] → (r : (BoxRow E).Denot) (v : Val) (new : (StoreRow E).Denot) → Gives0 E d ptr r new → ent 𝓤 (⋆ 𝓛 (‵ (fobs γ ((StoreRow E).coded.code new)) ∷ ‵ (fbor κ (Borrowed (mem (StoreRow E)) rb ro γ)) ∷ ‵ (flft κ q) ∷ ‵ ((BoxRow E).own_val r (v ∷ [])) ∷ [])) (Post v)
  exits passed r v new g0 =
      qed 𝓛 (‵ (fobs γ ((StoreRow E).coded.code new)) ∷ ‵ (fbor κ (Borrowed (mem (StoreRow E)) rb ro γ)) ∷ ‵ (flft κ q) ∷ ‵ ((BoxRow E).own_val r (v ∷ [])) ∷ []) ∵
      suffices ! _ (ends_at 𝓛 (ended E) (stayed E) (spec E 𝓛) bound v r (new, (tt, (tt, tt))) (tt, (tt, (tt, tt)))) $ says ! g0 $
      nothing ! $ move ! (3 ∷ 0 ∷ []) $ join ! $ frame ! $ feq_i ! (List Val) us0 (vptr rb ro ∷ []) passed $ fjoin3 ! $ nothing ! $ nothing ! $ fjoin ! $ nothing ! $ fjoin ! $ move ! (1 ∷ 0 ∷ []) $ fjoin ! $ done !

  abbrev Had : Val → List (Item 𝓤)
  Had h = ‵ (fobs γ ((StoreRow E).coded.code d)) ∷ ‵ (fbor κ (Borrowed (mem (StoreRow E)) rb ro γ)) ∷ ‵ (flft κ q) ∷ ‵ (handle.own_val memory (h ∷ [])) ∷ []

  walk : us0 ≡ vptr rb ro ∷ [] → Asks E d ptr → (h : Val) → Good (layout handle) h → ent 𝓤 (⋆ 𝓛 (Had h)) (WpFn 𝓤 H C Λ (function E) (vptr rb ro ∷ word ptr.at ∷ h ∷ []) Post)
  walk passed asked h fits =
      let xs = asked.0 in let c : Node E = asked.1 in let ys = asked.2 in
      let new : (StoreRow E).Denot = record { mark = d.mark; cells = xs ++ ys; apart = apart_without xs c ys (subst (λ cs. IsApart (ptrs cs)) asked.3 d.apart) } in
      qed 𝓛 (Had h) ∵ enter ! C Λ (function E) (vptr rb ro ∷ word ptr.at ∷ h ∷ []) _ $ alloc_all ! (λ l. pass_all ! refl ((tt, tt), (word-Good [] ptr.at, (fits, tt))) $
      opens ! tt (StoreRow E) {h = d} rb ro (λ vs. move ! (1 ∷ []) $ fsplit ! $ move ! (1 ∷ []) $
      -- [the cells; the mark; its cell; the open borrow; obs; auth; the handle]
      rewrite ! 0 (λ (cs : List (Node E)). ‵ (Cells E cs)) asked.3 refl $
      use1 𝓛 (‵ (Block E c) ⊛ ‵ (Cells E (xs ++ ys))) (cells_cut E 𝓛 xs c ys) $ split ! $
      in_a_block ! c.at (λ p. boxed (RN E) p c.value) (fst∗ 𝓤 (never 𝓤) (sem 𝓛 (free_token (bare (lone (RN E).mir)) null_ptr))) (λ b o e.
      let ep : ptr.at ≡ block_ptr b o = sym asked.4 ∙ e in let w : Val = both (vptr b o) h in
      let good = raw_box_good (RN E) handle handle_laws handle_ghosts b o h fits in
      let out : (BoxRow E).Denot = record { at = block_ptr b o; alloc = memory; value = c.value } in
      sets ! (is ! (of_opd ! (get_in ! (fld ! refl (stop !)) (sub ! 0 refl (whole !)))) (ap ptr_val ep)) refl (tt, tt) $
      sets ! (of_opd ! (get ! refl)) refl fits $
      sets ! (agg ! (and_then ! (get ! refl) (and_then ! (get ! refl) (no_more !)))) refl good $
      move ! (0 ∷ 7 ∷ []) $ raw_box_in (RN E) handle handle_laws handle_ghosts ! b o h memory c.value $
      -- [the result; the other cells; the mark; its cell; ..]
      move ! (2 ∷ 1 ∷ []) $ fjoin ! $ move ! (2 ∷ 0 ∷ 3 ∷ 4 ∷ 5 ∷ []) $ closes ! tt (StoreRow E) new vs rb ro $
      returns ! (look_at ! 0 refl) $ free_all ! refl $ keep ! (0 ∷ 1 ∷ 2 ∷ 3 ∷ []) $
      by ! (exits passed out w new (λ us k ws cut at.
      let same = same_cell d.cells xs c ys us k ws d.apart asked.3 cut (asked.4 ∙ sym at) in (λ i. same.0 i ++ same.2 i, sym same.1 ∙ ap (λ (p : Ptr). cell p c.value) e))))))

  entry : Asks E d ptr → ent 𝓤 (on_entry 𝓛 (ended E).signature (κ, tt) (q, tt) (self, (ptr, (memory, tt))) (us0, (us1, (us2, tt)))) (WpFn 𝓤 H C Λ (function E) (us0 ++ (us1 ++ (us2 ++ []))) Post)
  entry asked =
      qed 𝓛 ((‵ (flft κ q) ⊛ ‵ ftrue) ∷ ‵ (owns (MutRef (named 0) κ (StoreRow E) ∷ PtrRow E ∷ handle ∷ []) (self, (ptr, (memory, tt))) (us0, (us1, (us2, tt)))) ∷ []) ∵
      split ! $ move ! (2 ∷ []) $
      fsplit ! $
      fsplit3 ! $ feq_l ! (λ e0.
      move ! (2 ∷ []) $
      fsplit ! $
      word_had ! ptr.at us1 (λ e1.
      fsplit ! $
      handle_tells (al (RN E) handle handle_laws handle_ghosts) ! memory us2 (λ h e2 fits.
      keep ! (2 ∷ 3 ∷ 4 ∷ 0 ∷ []) $
      by ! (subst (λ (ws : List Val × List Val × List Val). ent 𝓤 (⋆ 𝓛 (Had h)) (WpFn 𝓤 H C Λ (function E) (ws.0 ++ (ws.1 ++ (ws.2 ++ []))) Post)) (λ j. (sym e0 j, sym e1 j, sym e2 j)) (walk e0 asked h fits)))))

meets : (E : One) {M : Type 1} {𝓤 : Ura M} (𝓛 : Logic 𝓤) (𝓣 : Tables 𝓤 𝓛.H)
    → Meets 𝓛 (ended E).signature (WpFn 𝓤 𝓛.H 𝓣.C 𝓣.Λ (function E)) (closing 𝓛 (ended E) (spec E 𝓛))
meets E {𝓤 = 𝓤} 𝓛 𝓣 =
    walk_Meets 𝓛 (ended E) (stayed E) (Goes-ref 𝓛 1 0 tt (plain (λ _. StoreRow E)), (Goes-dropped 𝓛 1 (plain (λ _. PtrRow E)) yes (λ κs x f. refl), (Goes-dropped 𝓛 1 (plain (λ _. handle)) yes (λ κs x f. refl), tt))) (spec E 𝓛) (WpFn 𝓤 𝓛.H 𝓣.C 𝓣.Λ (function E)) (WpFn-mono 𝓤 𝓛.H 𝓛.laws 𝓣 (function E))
    (λ z. needs 𝓤 (Asks E z.0.3.0.now z.0.3.1.0) _ (entry E 𝓛 𝓣.C 𝓣.Λ z.0.0.0 z.0.1.0 z.0.3.0.ref_ptr.0 z.0.3.0.ref_ptr.1 z.0.3.0.ghost_name z.0.3.0.now z.0.3.1.0 z.0.3.1.1.0 z.0.4.0 z.0.4.1.0 z.0.4.1.1.0))

pub remove_spec : {M : Type 1} → stated.statement M
unfolding tables_of
remove_spec 𝓤 𝓛 𝓜 𝓡 wired X LX y =
    let E : One = record { row = X; laws = LX } in
    let 𝓣 : Tables 𝓤 𝓛.H = tables_of 𝓤 𝓛.H 𝓜 (tables 𝓤 𝓛.H 𝓜 𝓡 𝓡.env) in
    let k = #self (args E) in
    spared 𝓛 (ended E).signature (𝓡.run (𝓡.env k)) (run_framed 𝓤 𝓛.H 𝓜 𝓡 (𝓡.env k)) 1 (X.lives, tt) (closing 𝓛 (ended E) (spec E 𝓛))
    (entered 𝓤 𝓛.H (triple_of 𝓛 (ended E).signature (closing 𝓛 (ended E) (spec E 𝓛))) 𝓣.C 𝓣.Λ k (function E) (code.unfolded 𝓤 𝓛.H 𝓜 𝓡 wired (X, tt)) (meets E 𝓛 𝓣))
    ((y.0.0, y.0.1, tt, y.0.3, y.0.4), y.1)
