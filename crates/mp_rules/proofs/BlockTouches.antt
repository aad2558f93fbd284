-- A block changes only what it touches.
use Rattle.std.proofs.Common.{◌≡◌, ℕ, ◌+◌, Bool, true, false, ◌||◌, List, [], ◌∷◌, ◌++◌, map, cond, refl, sym, ap, ◌∙◌}
use Rattle.std.specs.Prelude.{Some, None, Ok}
use Rattle.std.specs.Result.{result_unwrap_or}
use Rattle.std.specs.List.{list_any, enumerate_from}
use Rattle.std.specs.FinMap.{get}
use Rattle.std.proofs.lemmas.List.Folds.{list_any-append}
use Rattle.mp_tx.specs.declared.reference.OutRef.{OutRef}
use Rattle.mp_tx.specs.declared.output.Output.{Output}
use Rattle.mp_tx.specs.Reference.{same_ref}
use Rattle.mp_tx.specs.Transaction.{Transaction, spent_refs}
use Rattle.mp_tx.specs.Ledger.{LedgerState, refs, without}
use Rattle.mp_tx.specs.Undo.{DifferAt}
use Rattle.mp_tx.proofs.Undoing.{get-without, get-unmade}
use Rattle.mp_utxo.specs.Apply.{own_ref}
use Rattle.mp_rules.specs.Verifier.{Accepts}
use Rattle.mp_rules.specs.FirstFault.{first_fault}
use Rattle.mp_rules.specs.Block.{made_by, fault_or, apply_tx, apply_from, at_tick, apply_block}
use Rattle.mp_rules.specs.Touched.{own_refs, touched_by, touched_by_all}

refs-of : (t : Transaction) (ps : List (ℕ × Output)) → refs (map (λ p. (own_ref t p.0, p.1)) ps) ≡ map (λ p. own_ref t p.0) ps
refs-of t [] = refl
refs-of t (p ∷ ps) = ap (λ rs. own_ref t p.0 ∷ rs) (refs-of t ps)

refs-made : (t : Transaction) → refs (made_by t) ≡ own_refs t
refs-made t = refs-of t (enumerate_from 0 t.outputs)

neither : (a b : Bool) → (a || b) ≡ false → (a ≡ false) × (b ≡ false)
neither true b e = Prim.cc
neither false b e = (refl, e)

-- neither list has the reference
among : (r : OutRef) (xs ys : List OutRef) → list_any (same_ref r) (xs ++ ys) ≡ false → (list_any (same_ref r) xs ≡ false) × (list_any (same_ref r) ys ≡ false)
among r xs ys e = neither _ _ (sym (list_any-append (same_ref r) xs ys) ∙ e)

past-tx : (l : LedgerState) (t : Transaction) (r : OutRef) → list_any (same_ref r) (touched_by t) ≡ false → get (apply_tx l t).utxo r ≡ get l.utxo r
past-tx l t r not =
    let parts = among r (spent_refs t.inputs) (own_refs t) not in
    get-unmade (without l.utxo (spent_refs t.inputs)) (made_by t) r (ap (list_any (same_ref r)) (refs-made t) ∙ parts.1)
    ∙ get-without l.utxo (spent_refs t.inputs) r
    ∙ ap (λ b. cond b None (get l.utxo r)) parts.0

differ-from : (accepts : Accepts) (n : ℕ) (l : LedgerState) (ts : List Transaction) (m : LedgerState) → apply_from accepts n l ts ≡ Ok m → DifferAt (touched_by_all ts) l m
differ-from accepts n l [] m e =
    let same : l ≡ m = ap (λ r. result_unwrap_or r l) e in
    record { salt = ap (λ k. k.salt) (sym same); others = λ r not. ap (λ k. get k.utxo r) (sym same) }
differ-from accepts n l (t ∷ ts) m e =
    elim (first_fault accepts (get l.utxo) l.tick t) as (λ o. fault_or n o (apply_from accepts (n + 1) (apply_tx l t) ts) ≡ Ok m → DifferAt (touched_by_all (t ∷ ts)) l m) [
      | None ↦ λ e.
          let rest = differ-from accepts (n + 1) (apply_tx l t) ts m e in
          record {
            salt = rest.salt;
            others = λ r not.
                let parts = among r (touched_by t) (touched_by_all ts) not in
                rest.others r parts.1 ∙ past-tx l t r parts.0;
          }
      | Some fault ↦ λ e. absurd (let f = e in Prim.cc)
    ] e

pub differ : (accepts : Accepts) (l : LedgerState) (tick block_bytes : ℕ) (ts : List Transaction) (m : LedgerState) → apply_block accepts l tick block_bytes ts ≡ Ok m → DifferAt (touched_by_all ts) l m
unfolding apply_block
differ accepts l tick block_bytes ts m e =
    let rest = differ-from accepts 0 (at_tick l tick block_bytes) ts m e in
    record { salt = rest.salt; others = rest.others }
