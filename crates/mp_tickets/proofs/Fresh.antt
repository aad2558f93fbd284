-- A value that is inserted into a store has a new address. Assumes `Logic`.
use mathlib.Core.Path.{◌≡◌, refl, subst}
use mathlib.Core.Bool.{true, false}
use Prim.Native.Nat.{◌<◌}
use native.Mathlib.Omega.{arith}
use mathlib.Core.List.{List, [], ◌∷◌}
use seplogic.Ra.Ura.{Ura}
use base.Fraction.{full_share}
use mir.Raw.{raw as bare}
use mir.Val.{Val}
use base.Logic.{SProp, ent, sep, never, never_e, via, fst∗}
use base.Fml.{fat, froom}
use prog.Memory.{size}
use prog.Model.{Model}
use types.Logic.{Logic, sem}
use contract.Monad.{fact, fact_i}
use types.Kit.{‵, some, given, ◌⊛◌, ◌$◌, ◌∵◌, !, qed, by, move, keep, use1, pick, learn, split, fsplit}
use denote.Memory.{lone}
use denote.Param.{layout}
use denote.RawPtr.{Ptr, block_ptr, null_ptr}
use Rattle.core.specs.Mem.{type_size}
use Rattle.std_alloc.proofs.RcSteps.{Good}
use Rattle.lru.specs.Linked.{same_ptr}
use Rattle.lru.proofs.Apart.{same_ptr_eq}
use Rattle.lru.proofs.Memory.{knows, value_out}
use Rattle.mp_tickets.specs.Inside.Ownership.{boxed, free_token}
use Rattle.mp_tickets.proofs.Apart.{IsFresh}
use Rattle.mp_tickets.proofs.Walks.{One, RN, Node, Cells}

module _ (E : One) {M : Type 1} {𝓤 : Ura M} (𝓛 : Logic 𝓤) (𝓜 : Model 𝓤 𝓛.H) (sized : 0 < type_size (RN E)) where
  clash : (p : Ptr) (x y : E.row.Denot) → ent 𝓤 (sep 𝓤 (sem 𝓛 (boxed (RN E) p x)) (sem 𝓛 (boxed (RN E) p y))) (never 𝓤)
  clash (block_ptr b o) x y =
      let τ = layout E.row in let some_bytes : 0 < size τ = sized in
      qed 𝓛 (‵ (boxed (RN E) (block_ptr b o) x) ∷ ‵ (boxed (RN E) (block_ptr b o) y) ∷ []) ∵ fsplit ! $
      use1 𝓛 (some (λ (v : Val). given (Good τ v) (‵ (fat full_share τ b o v) ⊛ ‵ (E.row.own_val x (v ∷ []))))) (value_out 0 E.row E.laws 𝓛 x b o) $ pick ! (λ v. learn ! (λ gv. split ! $
      use1 𝓛 (‵ (froom τ b o)) (𝓛.laws.at_room τ b o v) $ move ! (3 ∷ []) $ fsplit ! $
      use1 𝓛 (some (λ (w : Val). given (Good τ w) (‵ (fat full_share τ b o w) ⊛ ‵ (E.row.own_val y (w ∷ []))))) (value_out 0 E.row E.laws 𝓛 y b o) $ pick ! (λ w. learn ! (λ gw. split ! $
      -- [the second cell; what it owns; the second token; the room of the first; ..]
      move ! (3 ∷ 0 ∷ []) $ keep ! (0 ∷ 1 ∷ []) $ by ! (𝓜.room_at τ τ b o o o full_share w (omega arith, omega arith) (omega arith, omega arith))))))
  clash null_ptr x y = via 𝓤 _ (fst∗ 𝓤 (sem 𝓛 (boxed (RN E) null_ptr x)) (sem 𝓛 (boxed (RN E) null_ptr y))) (fst∗ 𝓤 (never 𝓤) (sem 𝓛 (free_token (bare (lone (RN E).mir)) null_ptr)))

  differ : (p q : Ptr) (x y : E.row.Denot) → ent 𝓤 (sep 𝓤 (sem 𝓛 (boxed (RN E) p x)) (sem 𝓛 (boxed (RN E) q y))) (fact 𝓤 (same_ptr p q ≡ false))
  differ p q x y =
      let Both : Ptr → SProp 𝓤 = λ r. sep 𝓤 (sem 𝓛 (boxed (RN E) p x)) (sem 𝓛 (boxed (RN E) r y)) in
      (elim (same_ptr p q) as (λ t. same_ptr p q ≡ t → ent 𝓤 (Both q) (fact 𝓤 (same_ptr p q ≡ false))) [
        | true ↦ λ e. via 𝓤 (never 𝓤) (subst (λ r. ent 𝓤 (Both r) (never 𝓤)) (same_ptr_eq p q e) (clash p x y)) (never_e 𝓤 _)
        | false ↦ λ e. fact_i 𝓤 (same_ptr p q ≡ false) (Both q) e
      ]) refl

  pub fresh : (p : Ptr) (x : E.row.Denot) (cs : List (Node E)) → ent 𝓤 (sep 𝓤 (sem 𝓛 (boxed (RN E) p x)) (sem 𝓛 (Cells E cs))) (fact 𝓤 (IsFresh p cs))
  fresh p x [] = fact_i 𝓤 (IsFresh {N = E.row.Denot} p []) _ tt
  fresh p x (c ∷ cs) = qed 𝓛 (‵ (boxed (RN E) p x) ∷ ‵ (Cells E (c ∷ cs)) ∷ []) ∵ move ! (1 ∷ []) $ fsplit ! $ move ! (2 ∷ 0 ∷ []) $
      knows ! (same_ptr p c.at ≡ false) (differ p c.at x c.value) (λ here. move ! (0 ∷ 2 ∷ []) $ knows ! (IsFresh p cs) (fresh p x cs) (λ rest.
      by ! (fact_i 𝓤 (IsFresh p (c ∷ cs)) _ (here, rest))))
