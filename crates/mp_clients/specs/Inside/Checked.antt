-- What a submit would be answered, given the result of the rules.
use Rattle.std.specs.Prelude.{◌≡◌}
use Rattle.mp_seqpool.specs.Keep.{transactions}
use Rattle.mp_utxo.specs.Overlay.{Overlay}
use Rattle.mp_seqpool.specs.Pool.{Pool}

-- the pool's ledger state with all its transactions applied
pub record IsOverlayOf (p : Pool) (o : Overlay) : Type 0 where
  pub base : o.ledger ≡ p.ledger
  pub applied : o.applied ≡ transactions p.items
