use Rattle.std.proofs.Common.{refl, sym, arith, ◌∙◌}
use Rattle.std.specs.Prelude.{[]}
use Rattle.mp_tx.proofs.Blocks.{nothing_spent, spent_more, first_missing, all_spent}
use Rattle.mp_tx.proofs.ledger.outputs.Outputs.spend.Goals as goal

pub loop-place-init : goal.loop-place-init
loop-place-init c = record {
  spent = nothing_spent c.args.self.now.utxo c.args.spent.now c.args.changes.now.entries c.requires;
  salt = refl;
}

pub returns-then-not-is_there-clause-fault : goal.returns-then-not-is_there-clause-fault
returns-then-not-is_there-clause-fault c =
    first_missing c.args.self.now.utxo c.args.spent.now c.loop-place.changes.entries c.loop-place.place (record { id = []; index = 0 }) c.loop-place-test.true (sym c.if-not-is_there.ensures) c.loop-place.invariant.spent

pub loop-place-preserved : goal.loop-place-preserved
loop-place-preserved c = record {
  spent = spent_more c.args.self.now.utxo c.args.spent.now c.loop-place.changes.entries c.note.new.changes.entries c.loop-place.place (record { id = []; index = 0 }) c.loop-place-test.true
      (sym c.is_there.ensures ∙ c.if-not-is_there.false) (c.in_ok-note.ensures.changed c.args.self.now.utxo) c.loop-place.invariant.spent;
  salt = c.in_ok-note.ensures.salt ∙ c.loop-place.invariant.salt;
}

pub returns-clause-ok : goal.returns-clause-ok
returns-clause-ok c = (all_spent c.args.self.now.utxo c.args.spent.now c.loop-place.changes.entries c.loop-place.place (omega arith) c.loop-place.invariant.spent).0

pub returns-clause-there : goal.returns-clause-there
returns-clause-there c = (all_spent c.args.self.now.utxo c.args.spent.now c.loop-place.changes.entries c.loop-place.place (omega arith) c.loop-place.invariant.spent).1
