-- What a prepared step says about the pool, by its command and its reply.
use Rattle.std.proofs.Common.{◌≡◌, ℕ, ◌+◌, ◌≤◌, ◌^◌, sym, ap, subst, ◌∙◌, arith}
use Rattle.mp_tx.specs.Transaction.{Transaction}
use Rattle.mp_tx.specs.Spelling.{size_of}
use Rattle.mp_seqpool.specs.Pool.{Pool, Holding}
use Rattle.mp_seqpool.specs.SlowPool.{HasPlace, bytes_held, pool_with}
use Rattle.mp_seqpool.specs.Prepared.{Effect, Append, Keep, TakeOut, Adopt, changed, CanChange}
use Rattle.mp_versions.proofs.ByteSums.{sum-last}

not_itself : (n : ℕ) → n + 1 ≡ n → ⊥
not_itself n e = absurd (omega (arith, e))

place : (h : Holding) (c : Effect) (t : Transaction) → CanChange h c → changed h.pool c ≡ pool_with h.pool t → HasPlace h.pool t
place h (Append item) t can e =
    let more : bytes_held h.pool + size_of item.tx ≡ bytes_held h.pool + size_of t =
    sym (sum-last h.pool.items (h.pool.last + 1, item.tx)) ∙ ap bytes_held e ∙ sum-last h.pool.items (h.pool.last + 1, t) in
    let most = can.place.bytes in
    record { ticket = can.place.ticket; change = can.place.change; bytes = subst (λ n. n ≤ 2 ^ 40) more most }
place h (Keep overlay kept) t can e = absurd (not_itself h.pool.last (sym (ap (λ (q : Pool). q.last) e)))
place h (TakeOut gone) t can e = absurd (not_itself h.pool.last (sym (ap (λ (q : Pool). q.last) e)))
place h (Adopt ledger gone) t can e = absurd (not_itself h.pool.last (sym (ap (λ (q : Pool). q.last) e)))
