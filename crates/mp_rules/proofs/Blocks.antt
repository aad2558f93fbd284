-- Blocks, a transaction at a time.
use Rattle.std.proofs.Common.{◌≡◌, ℕ, ◌+◌, List, [], ◌∷◌, refl, sym, ap, subst, ◌∙◌}
use Rattle.std.specs.Prelude.{Some, None, Ok}
use Rattle.std.specs.Result.{result_unwrap_or}
use Rattle.std.specs.FinMap.{get}
use Rattle.mp_tx.specs.Transaction.{Transaction}
use Rattle.mp_tx.specs.Ledger.{LedgerState}
use Rattle.mp_utxo.specs.Apply.{apply, after}
use Rattle.mp_rules.specs.Verifier.{Accepts}
use Rattle.mp_rules.specs.Validity.{Chain}
use Rattle.mp_rules.specs.FirstFault.{first_fault}
use Rattle.mp_rules.proofs.Valid.{valid}
use Rattle.mp_rules.specs.Block.{fault_or, apply_tx, apply_from, at_tick, apply_block}
use Rattle.mp_rules.specs.BlockLaws.{IsAfter, BlockIsAChain}
use Rattle.mp_rules.proofs.BlockEffect.{get-apply_tx}

-- ---- the start of a block

pub begins : (accepts : Accepts) (l now : LedgerState) (tick block_bytes : ℕ) (ts : List Transaction) → now ≡ at_tick l tick block_bytes → apply_from accepts 0 now ts ≡ apply_block accepts l tick block_bytes ts
unfolding apply_block
begins accepts l now tick block_bytes ts is = ap (λ m. apply_from accepts 0 m ts) is

-- ---- the law

chain_from : (accepts : Accepts) (n : ℕ) (l : LedgerState) (ts : List Transaction) (m : LedgerState) → apply_from accepts n l ts ≡ Ok m → IsAfter accepts (get l.utxo) l.tick l.block_bytes ts m
chain_from accepts n l [] m e =
    let same : l ≡ m = ap (λ r. result_unwrap_or r l) e in
    record { chain = tt; at = ap (λ k. k.tick) (sym same); bytes = ap (λ k. k.block_bytes) (sym same); utxo = λ r. ap (λ k. get k.utxo r) (sym same) }
chain_from accepts n l (t ∷ ts) m e =
    elim (first_fault accepts (get l.utxo) l.tick t) as (λ o. first_fault accepts (get l.utxo) l.tick t ≡ o → fault_or n o (apply_from accepts (n + 1) (apply_tx l t) ts) ≡ Ok m → IsAfter accepts (get l.utxo) l.tick l.block_bytes (t ∷ ts) m) [
      | None ↦ λ clear e.
          let rest = chain_from accepts (n + 1) (apply_tx l t) ts m e in
          let same : get (apply_tx l t).utxo ≡ apply t (get l.utxo) = λ i r. get-apply_tx l t r i in
          record {
            chain = (valid accepts (get l.utxo) l.tick t clear, subst (λ u. Chain accepts u l.tick ts) same rest.chain);
            at = rest.at;
            bytes = rest.bytes;
            utxo = λ r. rest.utxo r ∙ ap (λ u. after u ts r) same;
          }
      | Some fault ↦ λ clear e. absurd (let f = e in Prim.cc)
    ] refl e

pub block_is_a_chain : BlockIsAChain
unfolding apply_block
block_is_a_chain accepts l tick block_bytes ts m e = chain_from accepts 0 (at_tick l tick block_bytes) ts m e
