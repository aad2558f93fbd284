use Rattle.std.proofs.Common.{◌≡◌, ◌++◌, drop, map}
use Rattle.std.specs.Arc.{arc_value}
use Rattle.mp_serve.proofs.staged.share_all.Given as goal

-- the shares so far and the transactions that are left are all
abbrev pub invariant-loop-tx : goal.invariant-loop-tx
invariant-loop-tx l = map arc_value l.shares.items ++ map arc_value (drop l.tx-index l.txs) ≡ map arc_value l.txs
