use Rattle.std.proofs.Common.{refl}
use Rattle.mp_tx.proofs.Undoing.{goes-back, is-within}
use Rattle.mp_tx.proofs.undo.Undo.between.Goals as goal

pub note_all-requires-clause-of : goal.note_all-requires-clause-of
note_all-requires-clause-of c = c.in_ok-notes.ensures.of c.args.before.now.utxo c.args.after.now.utxo

pub returns-clause-back : goal.returns-clause-back
returns-clause-back c =
    goes-back c.args.touched.now c.args.before.now c.args.after.now c.note_all.new.self _ c.requires c.in_ok-note_all.ensures.of c.in_ok-note_all.ensures.seen
    c.block_bytes.ensures.range c.tick.ensures c.block_bytes.ensures.same refl refl

pub returns-clause-within : goal.returns-clause-within
returns-clause-within c =
    is-within c.args.before.now.utxo c.args.after.now.utxo c.note_all.new.self _ c.in_ok-note_all.ensures.of c.in_ok-note_all.ensures.count refl refl
