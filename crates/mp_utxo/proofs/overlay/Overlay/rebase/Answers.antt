use Rattle.std.proofs.Common.{sym, subst}
use Rattle.std.specs.FinMap.{get}
use Rattle.mp_utxo.specs.Overlay.{Overlay}
use Rattle.mp_utxo.specs.Leaf.{IsFed}
use Rattle.mp_utxo.specs.Inside.Applied.{places}
use Rattle.mp_utxo.proofs.Rebased.{rebased}
use Rattle.mp_utxo.proofs.overlay.Overlay.rebase.Goals as goal

pub invariant_of-self : goal.invariant_of-self
invariant_of-self c = record {
  changes = rebased (places c.self.inside.applied.items) (get c.self.inside.ledger.utxo) (get c.args.ledger.utxo) c.self.inside.changes.entries
      (subst (λ (o : Overlay). IsFed (get o.ledger.utxo) o.applied) (sym c.self.view_is) c.requires.fed) c.self.invariant.changes;
  reads = c.self.invariant.reads;
  bare = c.self.invariant.bare;
  salt = c.self.invariant.salt;
}
