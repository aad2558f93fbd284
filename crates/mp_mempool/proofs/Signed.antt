-- Signatures in the pool after a legal history.
use Rattle.std.proofs.Common.{◌≡◌, ℕ, sym, subst}
use Rattle.mp_rules.specs.Verifier.{Accepts}
use Rattle.mp_seqpool.specs.Pool.{Pool}
use Rattle.mp_seqpool.specs.SlowPool.{AreSigned}
use Rattle.mp_history.specs.Log.{Log, IsLegalLog, state_after}
use Rattle.mp_history.proofs.Logs.{signed-of}

-- the verifier accepts them all
pub signed_after : (accepts a : Accepts) (callers : ℕ) (log : Log) (p : Pool) → a ≡ accepts → IsLegalLog accepts callers log → p ≡ state_after accepts log → AreSigned a p
signed_after accepts a callers log p same legal is =
    subst (λ b. AreSigned b p) (sym same) (signed-of accepts log.opening p log.entries legal.lawful is)
