-- A pool's transactions are valid in order, except for their signatures.
use Rattle.std.specs.Prelude.{true}
use Rattle.std.specs.FinMap.{get}
use Rattle.mp_rules.specs.Verifier.{Accepts}
use Rattle.mp_rules.specs.Validity.{Chain}
use Rattle.mp_seqpool.specs.Keep.{transactions}
use Rattle.mp_seqpool.specs.Pool.{Pool}

-- all signatures are good
abbrev pub all_accepted : Accepts
all_accepted key id signature = true

-- each transaction is valid on the ledger after all before it, except for its signatures
abbrev pub IsChained : Pool → Type 0
IsChained p = Chain all_accepted (get p.ledger.utxo) p.ledger.tick (transactions p.items)
