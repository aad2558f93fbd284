use Rattle.std.proofs.Common.{◌≡◌, ◌≤◌, length, take}
use Rattle.std.specs.List.{list_any}
use Rattle.mp_tx.specs.declared.reference.OutRef.{OutRef}
use Rattle.mp_tx.specs.Reference.{same_ref}
use Rattle.mp_tx.specs.Inside.Undo.{AreOf}
use Rattle.mp_tx.proofs.undo.Notes.note_all.Given as goal

-- the references before the index were noted
abbrev pub invariant-loop-reference : goal.invariant-loop-reference
invariant-loop-reference l = record {
  of : AreOf l.before.utxo l.after.utxo l.self;
  seen : (r : OutRef) → list_any (same_ref r) l.self.seen.keys ≡ list_any (same_ref r) (take l.reference-index l.references);
  count : length l.self.seen.keys ≤ l.reference-index;
}
