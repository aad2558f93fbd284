-- What the sequential pool prepares, in terms of what the lock guards.
use Rattle.std.proofs.Common.{◌≡◌, ℕ, List, ap, subst, subst₂, ◌∙◌}
use Rattle.std.specs.Prelude.{Result, Option, IfOk, IfErr}
use Rattle.mp_rules.specs.Verifier.{Accepts}
use Rattle.mp_seqpool.specs.declared.refusal.Refusal.{Refusal}
use Rattle.mp_seqpool.specs.declared.refusal.Refusal.TheVariants as refusals
use Rattle.mp_seqpool.specs.Command.{Command}
use Rattle.mp_seqpool.specs.Pool.{Pool, Holding}
use Rattle.mp_seqpool.specs.Prepared.{Prepared, Prepares}
use Rattle.mp_seqpool.specs.SlowPool.{AreSigned, IsRefused}
use Rattle.mp_history.specs.Log.{Log, state_after}
use Rattle.mp_mempool.proofs.Signed.{signed_after}
use Rattle.mp_mempool.specs.Locked.{Locked, holding}
use Rattle.mp_mempool.specs.Inside.Locked.{IsAt}

module _ (accepts : Accepts) where
  -- the sequential pool is what the history under the lock leads to
  pub held : (callers : ℕ) (log : Log) (h : Holding) (newest : Log) (places : List (Option ℕ)) (waiting : Option Log) (published : Log) (l : Locked)
      → IsAt accepts callers log h.pool newest places
      → record { log = log; room = h.room; waiting = waiting; published = published } ≡ l → h ≡ holding accepts l
  held callers log h newest places waiting published l at view = ap (λ p. record { pool = p; room = h.room }) at.state ∙ ap (holding accepts) view

  pub signed_held : (a : Accepts) (callers : ℕ) (log : Log) (p : Pool) (newest : Log) (places : List (Option ℕ)) → a ≡ accepts → IsAt accepts callers log p newest places → AreSigned a p
  signed_held a callers log p newest places same at = signed_after accepts a callers log p same at.legal at.state

  pub prepares_held : {E : Type 0} (a : Accepts) (h : Holding) (l : Locked) (c : Command) (r : Result Prepared E) → a ≡ accepts → h ≡ holding accepts l
      → IfOk r (Prepares a h c) → IfOk r (Prepares accepts (holding accepts l) c)
  prepares_held a h l c r same at ready = subst₂ (λ b k. IfOk r (Prepares b k c)) same at ready

  pub refused_held : {A : Type 0} (a : Accepts) (h : Holding) (l : Locked) (c : Command) (r : Result A Refusal) → a ≡ accepts → h ≡ holding accepts l
      → IfErr r (IsRefused a h.pool c) → IfErr r (IsRefused accepts (state_after accepts l.log) c)
  refused_held a h l c r same at refused = subst₂ (λ b (k : Holding). IfErr r (IsRefused b k.pool c)) same at refused
