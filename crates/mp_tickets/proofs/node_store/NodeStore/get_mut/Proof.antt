-- `get_mut` lends one value, and the store changes with it. Assumes `Logic`.
use mathlib.Core.Path.{◌≡◌, refl, sym, ap, subst, ◌∙◌}
use Prim.Native.Nat.{ℕ}
use mathlib.Core.List.{List, [], ◌∷◌, ◌++◌}
use seplogic.Ra.Ura.{Ura}
use base.Fraction.{full_share}
use mir.Raw.{raw as bare}
use mir.Syntax.{Fn, named}
use mir.MapTy.{inst_fn}
use mir.Val.{Val, vptr}
use base.Logic.{SProp, ent, sep, never, id⊢}
use base.Fml.{Lft, GName, Share, Fml, ftrue, fsep, flft, fobs, fbor}
use prog.Wp.{Env, Calls, Loops, WpFn, Tables}
use types.Logic.{Logic, sem}
use contract.Monad.{fact}
use contract.Running.{tables, tables_of}
use sound.WpLaws.{WpFn-mono}
use types.Kit.{Item, ⋆, ‵, raw, ◌⊛◌, some, later, await, pick, at_ret, ◌$◌, ◌∵◌, !, qed, by, move, keep, use1, use2, split, join, group, rewrite, fsplit, fsplit3, fjoin, fpack, feq_l, suffices, frame, done}
use types.Part.{whole, sub}
use types.Run.{stop, fld, of_opd, addr, first, blocks, exec, returns, enter}
use types.ByLocal.{alloc_all, pass_all, free_all, look_at, get, get_in, through, sets, sets_last, is, env}
use types.SemTy.{Body as Borrowed}
use denote.Exit.{yes, no}
use denote.RattleType.{owns}
use denote.Memory.{mem, lone, cell_at, part_at, part_of}
use denote.RawPtr.{Ptr, block_ptr, ptr_val, in_a_block, lies_at}
use denote.Ref.{MutBor, MutRef}
use denote.Builtin.{RefMutOf}
use denote.Signature.{plain, mut_ref_to}
use denote.Steps.{nothing, opens}
use denote.Triple.Carry.{spared}
use denote.Triple.Clauses.{Clauses, Ended, closing}
use denote.Triple.Entry.{on_entry}
use denote.Triple.Spec.{Meets, triple_of}
use denote.Triple.Table.{entered, run_framed}
use denote.Triple.Walked.{says, needs, Stays, stay_dropped, walk_of, ends_at, Goes-dropped, Goes-spent_ref, walk_Meets}
use denote.Follow.{follows, Part, lends_Part}
use Rattle.std_alloc.proofs.VecSteps.Shapes.{after}
use Rattle.std_alloc.proofs.RcSteps.{word, word-Good}
use Rattle.lru.specs.Linked.{IsApart}
use Rattle.lru.proofs.Memory.{word_had}
use Rattle.mp_tickets.specs.Inside.Cell.{cell, ptrs, set_value, IsAt, AtCell}
use Rattle.mp_tickets.specs.Inside.Ownership.{free_token}
use Rattle.mp_tickets.specs.Inside.Lends.{with_value}
use Rattle.mp_tickets.proofs.Apart.{same_cell, set_value-cut}
use Rattle.mp_tickets.proofs.Walks.{One, args, RN, Node, StoreRow, PtrRow, Mark, Block, Cells, cells_cut, cells_glue}
use Rattle.mp_tickets.specs.contracts.node_store.NodeStore.get_mut.Key.{name as #self}
use Rattle.mp_tickets.proofs.node_store.NodeStore.get_mut.Statement as stated
use Rattle.mp_tickets.proofs.node_store.NodeStore.get_mut.Code as code

module _ (E : One) where
  abbrev function : Fn
  function = inst_fn (args E) code.function

  abbrev ended : Ended
  ended = record { signature = record { lifetimes = 1; outlives = []; params = RefMutOf (0 ∷ []) tt (plain (λ _. StoreRow E)) (λ _. tt) ∷ plain (λ _. PtrRow E) ∷ []; result = RefMutOf (0 ∷ []) tt (plain (λ _. RN E)) (λ _. tt) }; kept = (no, (yes, tt)) }

  abbrev stayed : Stays ended.signature.params ended.kept
  stayed = (stay_dropped (mut_ref_to (0 ∷ []) tt (plain (λ _. StoreRow E))) no, (stay_dropped (plain (λ _. PtrRow E)) yes, tt))

  abbrev Asks : (StoreRow E).Denot → (PtrRow E).Denot → Type 0
  Asks d ptr = IsAt d.cells ptr.at

  abbrev Gives0 : (StoreRow E).Denot → (PtrRow E).Denot → MutBor E.row.Denot → Type 0
  Gives0 d ptr r = AtCell d.cells ptr.at (λ _ c _. r.now ≡ c.value)

  abbrev spec : {M : Type 1} {𝓤 : Ura M} (𝓛 : Logic 𝓤) → Clauses 𝓤 ended
  spec {𝓤 = 𝓤} 𝓛 κs a = record { ghost = Unit {0}; requires = λ _. fact 𝓤 (Asks a.0.now a.1.0); ensures = λ _ r w. sep 𝓤 (sem 𝓛 (follows (StoreRow E) (RN E) a.0.ghost_name r.ghost_name (with_value a.0.now a.1.0.at))) (fact 𝓤 (Gives0 a.0.now a.1.0 r)) }

module _ (E : One) {M : Type 1} {𝓤 : Ura M} (𝓛 : Logic 𝓤) (C : Calls 𝓤 𝓛.H) (Λ : Loops 𝓤 𝓛.H) (κ : Lft) (q : Share) (rb ro : ℕ) (γ : GName) (d : (StoreRow E).Denot) (ptr : (PtrRow E).Denot) (us0 us1 : List Val) where
  open 𝓛 use {H, A}

  abbrev self : MutBor (StoreRow E).Denot
  self = record { ref_ptr = (rb, ro); ghost_name = γ; now = d }

  abbrev bound : (walk_of 𝓛 (ended E) (stayed E) (spec E 𝓛)).Ghost
  bound = (((κ, tt), (q, tt), tt, (self, (ptr, tt)), (us0, (us1, tt))), tt)

  abbrev Post : Val → SProp 𝓤
  Post = (walk_of 𝓛 (ended E) (stayed E) (spec E 𝓛)).post bound

  abbrev new : E.row.Denot → (StoreRow E).Denot
  new = with_value d ptr.at

  module _ (xs : List (Node E)) (c : Node E) (ys : List (Node E)) (vs : List Val) (b o : ℕ) where
    -- all but the value
    abbrev Rest : Fml
    Rest = fsep (free_token (bare (lone (RN E).mir)) c.at) (fsep (Cells E (xs ++ ys)) (fsep ((Mark E).own_val (tt, tt) vs) (cell_at full_share (StoreRow E).mir vs rb ro)))

    back : d.cells ≡ xs ++ c ∷ ys → c.at ≡ ptr.at → c.at ≡ block_ptr b o
        → (w : E.row.Denot) → ent 𝓤 (sep 𝓤 (sem 𝓛 ((mem (RN E)).own_at w b o)) (sem 𝓛 Rest)) (sem 𝓛 ((mem (StoreRow E)).own_at (new w) rb ro))
    unfolding part_of
    back cut at e w =
        let m : Node E = cell c.at w in
        let written : set_value ptr.at w d.cells ≡ xs ++ m ∷ ys =
        (λ i. set_value (sym at i) w (cut i)) ∙ set_value-cut xs c ys w (subst (λ cs. IsApart (ptrs cs)) cut d.apart) in
        qed 𝓛 (‵ (part_at (RN E) full_share w b o) ∷ ‵ Rest ∷ []) ∵ rewrite ! 0 (λ (p : Ptr). ‵ (lies_at (RN E) full_share p w)) (sym e) refl $
        move ! (1 ∷ []) $ fsplit3 ! $ move ! (2 ∷ []) $ fsplit ! $
        -- [the mark; its cell; the token; the other cells; the value]
        move ! (4 ∷ 2 ∷ []) $ fjoin ! $ move ! (0 ∷ 3 ∷ []) $
        use2 𝓛 (‵ (Cells E (xs ++ m ∷ ys))) (cells_glue E 𝓛 xs m ys) $ rewrite ! 0 (λ (cs : List (Node E)). ‵ (Cells E cs)) (sym written) refl $
        move ! (1 ∷ 0 ∷ []) $ fjoin ! $ move ! (1 ∷ 0 ∷ []) $ fjoin ! $
        fpack ! (List Val) (λ us. fsep (cell_at full_share (StoreRow E).mir us rb ro) ((StoreRow E).own_val (new w) us)) vs $ done !

  exits : (b o : ℕ) (r : MutBor E.row.Denot) → Gives0 E d ptr r
      → ent 𝓤 (sep 𝓤 (sem 𝓛 ((MutRef (named 0) κ (RN E)).own_val r (vptr b o ∷ []))) (sep 𝓤 (A.lft κ q) (sem 𝓛 (follows (StoreRow E) (RN E) γ r.ghost_name new)))) (Post (vptr b o))
  exits b o r e =
      qed 𝓛 (‵ ((MutRef (named 0) κ (RN E)).own_val r (vptr b o ∷ [])) ∷ ‵ (flft κ q) ∷ ‵ (follows (StoreRow E) (RN E) γ r.ghost_name new) ∷ []) ∵
      suffices ! _ (ends_at 𝓛 (ended E) (stayed E) (spec E 𝓛) bound (vptr b o) r (tt, (tt, tt)) (tt, (tt, tt))) $
      nothing ! $ nothing ! $ fjoin ! $ nothing ! $ fjoin ! $ join ! $ nothing ! $ move ! (2 ∷ 0 ∷ []) $ join ! $ join ! $ frame ! $ says ! e $ done !

  abbrev Had : List (Item 𝓤)
  Had = ‵ (fobs γ ((StoreRow E).coded.code d)) ∷ ‵ (fbor κ (Borrowed (mem (StoreRow E)) rb ro γ)) ∷ ‵ (flft κ q) ∷ []

  walk : Asks E d ptr → ent 𝓤 (⋆ 𝓛 Had) (WpFn 𝓤 H C Λ (function E) (vptr rb ro ∷ word ptr.at ∷ []) Post)
  walk asked =
      let xs = asked.0 in let c : Node E = asked.1 in let ys = asked.2 in
      let code = (StoreRow E).coded.code d in
      qed 𝓛 Had ∵ enter ! C Λ (function E) (vptr rb ro ∷ word ptr.at ∷ []) _ $ alloc_all ! (λ l. pass_all ! refl ((tt, tt), (word-Good [] ptr.at, tt)) $
      let En : Env 𝓤 H = env (function E).locals l in
      opens ! tt (StoreRow E) {h = d} rb ro (λ vs. move ! (1 ∷ []) $ fsplit ! $ move ! (1 ∷ []) $
      rewrite ! 0 (λ (cs : List (Node E)). ‵ (Cells E cs)) asked.3 refl $
      use1 𝓛 (‵ (Block E c) ⊛ ‵ (Cells E (xs ++ ys))) (cells_cut E 𝓛 xs c ys) $ split ! $ fsplit ! $
      in_a_block ! c.at (λ p. lies_at (RN E) full_share p c.value) (id⊢ 𝓤 (never 𝓤)) (λ pb po e.
      let ep : ptr.at ≡ block_ptr pb po = sym asked.4 ∙ e in
      let way = back xs c ys vs pb po asked.3 asked.4 e in
      -- [the value; the token; the other cells; the mark; its cell; the open borrow; obs; auth]
      first ! $ blocks ! $ sets ! (is ! (of_opd ! (get_in ! (fld ! refl (stop !)) (sub ! 0 refl (whole !)))) (ap ptr_val ep)) refl (tt, tt) $
      sets_last ! (addr ! (through ! refl (stop !))) refl (tt, tt) $ exec ! C Λ En (after 1 (function E).body) (at_ret En Post) $ sets ! (of_opd ! (get ! refl)) refl (tt, tt) $
      move ! (3 ∷ 4 ∷ []) $ fjoin ! $ move ! (3 ∷ 0 ∷ []) $ fjoin ! $ move ! (2 ∷ 0 ∷ []) $ fjoin ! $ move ! (2 ∷ 3 ∷ 4 ∷ 1 ∷ 0 ∷ []) $ group ! 5 $
      use1 𝓛 (later (some (λ (δ : GName). raw (Part 𝓛 (StoreRow E) (RN E) new (named 0) κ q rb ro pb po γ (sem 𝓛 (Rest xs c ys vs pb po)) way c.value δ))))
      (lends_Part 𝓛 (StoreRow E) (RN E) new (named 0) κ q rb ro pb po γ (sem 𝓛 (Rest xs c ys vs pb po)) way code code c.value) $ await ! tt $ pick ! (λ δ.
      returns ! (look_at ! 0 refl) $ free_all ! refl $ keep ! (0 ∷ []) $
      by ! (exits pb po (record { ref_ptr = (pb, po); ghost_name = δ; now = c.value }) (λ us k ws cut at.
      ap (λ (n : Node E). n.value) (same_cell d.cells xs c ys us k ws d.apart asked.3 cut (asked.4 ∙ sym at)).1))))))

  entry : Asks E d ptr → ent 𝓤 (on_entry 𝓛 (ended E).signature (κ, tt) (q, tt) (self, (ptr, tt)) (us0, (us1, tt))) (WpFn 𝓤 H C Λ (function E) (us0 ++ (us1 ++ [])) Post)
  entry asked =
      qed 𝓛 ((‵ (flft κ q) ⊛ ‵ ftrue) ∷ ‵ (owns (MutRef (named 0) κ (StoreRow E) ∷ PtrRow E ∷ []) (self, (ptr, tt)) (us0, (us1, tt))) ∷ []) ∵
      split ! $ move ! (2 ∷ []) $
      fsplit ! $
      fsplit3 ! $ feq_l ! (λ e0.
      move ! (2 ∷ []) $
      fsplit ! $
      word_had ! ptr.at us1 (λ e1.
      keep ! (1 ∷ 2 ∷ 3 ∷ []) $
      by ! (subst (λ (ws : List Val × List Val). ent 𝓤 (⋆ 𝓛 Had) (WpFn 𝓤 H C Λ (function E) (ws.0 ++ (ws.1 ++ [])) Post)) (λ j. (sym e0 j, sym e1 j)) (walk asked))))

meets : (E : One) {M : Type 1} {𝓤 : Ura M} (𝓛 : Logic 𝓤) (𝓣 : Tables 𝓤 𝓛.H)
    → Meets 𝓛 (ended E).signature (WpFn 𝓤 𝓛.H 𝓣.C 𝓣.Λ (function E)) (closing 𝓛 (ended E) (spec E 𝓛))
meets E {𝓤 = 𝓤} 𝓛 𝓣 =
    walk_Meets 𝓛 (ended E) (stayed E) (Goes-spent_ref 𝓛 1 (0 ∷ []) tt (plain (λ _. StoreRow E)), (Goes-dropped 𝓛 1 (plain (λ _. PtrRow E)) yes (λ κs x f. refl), tt)) (spec E 𝓛) (WpFn 𝓤 𝓛.H 𝓣.C 𝓣.Λ (function E)) (WpFn-mono 𝓤 𝓛.H 𝓛.laws 𝓣 (function E))
    (λ z. needs 𝓤 (Asks E z.0.3.0.now z.0.3.1.0) _ (entry E 𝓛 𝓣.C 𝓣.Λ z.0.0.0 z.0.1.0 z.0.3.0.ref_ptr.0 z.0.3.0.ref_ptr.1 z.0.3.0.ghost_name z.0.3.0.now z.0.3.1.0 z.0.4.0 z.0.4.1.0))

pub get_mut_spec : {M : Type 1} → stated.statement M
unfolding tables_of
get_mut_spec 𝓤 𝓛 𝓜 𝓡 wired X LX y =
    let E : One = record { row = X; laws = LX } in
    let 𝓣 : Tables 𝓤 𝓛.H = tables_of 𝓤 𝓛.H 𝓜 (tables 𝓤 𝓛.H 𝓜 𝓡 𝓡.env) in
    let k = #self (args E) in
    spared 𝓛 (ended E).signature (𝓡.run (𝓡.env k)) (run_framed 𝓤 𝓛.H 𝓜 𝓡 (𝓡.env k)) 1 (X.lives, tt) (closing 𝓛 (ended E) (spec E 𝓛))
    (entered 𝓤 𝓛.H (triple_of 𝓛 (ended E).signature (closing 𝓛 (ended E) (spec E 𝓛))) 𝓣.C 𝓣.Λ k (function E) (code.unfolded 𝓤 𝓛.H 𝓜 𝓡 wired (X, tt)) (meets E 𝓛 𝓣))
    ((y.0.0, y.0.1, tt, y.0.3, y.0.4), y.1)
