use Rattle.std.proofs.Common.{◌≡◌, drop, map}
use Rattle.std.specs.Arc.{arc_value}
use Rattle.mp_rules.specs.Block.{apply_from, apply_block}
use Rattle.mp_rules.proofs.block.apply_block.Given as goal

-- the result of the transactions from the index on, on the ledger state so far, is the result of all
abbrev pub invariant-loop-place : goal.invariant-loop-place
invariant-loop-place g l =
    apply_from (g.V.Verifier.accepts l.verifier) l.place l.now (map arc_value (drop l.place l.txs))
    ≡ apply_block (g.V.Verifier.accepts l.verifier) l.ledger l.tick l.block_bytes (map arc_value l.txs)
