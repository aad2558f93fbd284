use Rattle.std.proofs.Common.{◌≡◌, ◌++◌, take}
use Rattle.mp_tx.proofs.ledger.layers.push_shares.Given as goal

-- those before the index are added
abbrev pub invariant-loop-layer : goal.invariant-loop-layer
invariant-loop-layer l = l.layers.items ≡ l.fn.layers.items ++ take l.layer-index l.older
