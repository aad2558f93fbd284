-- What the overlay has without what goes.
use Rattle.std.proofs.Common.{◌≡◌, ℕ, List, sym, ap, subst, ◌∙◌}
use Rattle.std.specs.Prelude.{All}
use Rattle.mp_utxo.specs.Overlay.{Overlay}
use Rattle.mp_seqpool.specs.ValidatedTx.{ticketed}
use Rattle.mp_seqpool.specs.Keep.{transactions}
use Rattle.mp_seqpool.specs.declared.command.Reply.{Reply}
use Rattle.mp_seqpool.specs.declared.pool.SeqPool.TheInside.{Inside}
use Rattle.mp_seqpool.specs.SlowPool.{pool_upon}
use Rattle.mp_seqpool.specs.Prepared.{HasApplied, IsLeafAt, apart, left_by}
use Rattle.mp_seqpool.specs.Inside.Chained.{IsChained}
use Rattle.mp_seqpool.specs.Inside.SeqPool.{state, IsCounted}
use Rattle.mp_seqpool.specs.Inside.NamedLeaves.{HasLeaves, Lacks}
use Rattle.mp_seqpool.proofs.Left.{rising_ticketed}

-- the overlay has the pool's transactions, and the named ones are leaves
pub has_leaves : (was : Inside) (gone : List ℕ) → All (IsLeafAt (state was)) gone → IsCounted was → HasLeaves was.overlay (ticketed was.items) gone
has_leaves was gone leaves law = record {
  applied = law.applied;
  under = law.under;
  chained = law.chained;
  distinct = law.distinct;
  rising = rising_ticketed 0 was.items law.rising;
  leaves = leaves;
}

-- what the overlay has without them is what the reply leaves, and it is chained
pub lacking_leaves : (was : Inside) (overlay : Overlay) (gone : List ℕ) (reply : Reply) → Lacks was.overlay (ticketed was.items) gone overlay → apart gone (ticketed was.items) ≡ left_by reply (ticketed was.items)
    → HasApplied overlay (left_by reply (ticketed was.items)) × IsChained (pool_upon (state was) overlay.ledger (left_by reply (ticketed was.items)))
lacking_leaves was overlay gone reply lacks left = (
  record { applied = lacks.applied ∙ ap transactions left; under = lacks.under ∙ left },
  subst (λ l. IsChained (pool_upon (state was) l (left_by reply (ticketed was.items)))) (sym lacks.base)
      (subst (λ l. IsChained (pool_upon (state was) was.overlay.ledger l)) left lacks.chained),
)
