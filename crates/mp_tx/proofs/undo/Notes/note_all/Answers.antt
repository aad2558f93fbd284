use Rattle.std.proofs.Common.{[], ap, arith, ◌∙◌}
use Rattle.std.specs.List.{list_any}
use Rattle.std.proofs.lemmas.List.{take_all}
use Rattle.mp_tx.specs.Reference.{same_ref}
use Rattle.mp_tx.proofs.Undoing.{seen-none, seen-more, none-counted, counted-more}
use Rattle.mp_tx.proofs.undo.Notes.note_all.Goals as goal

pub loop-reference-init : goal.loop-reference-init
loop-reference-init c = record {
  of = c.requires.of;
  seen = seen-none c.args.self.now.seen.keys c.args.references.now c.requires.none;
  count = none-counted c.args.self.now.seen.keys c.requires.none;
}

pub loop-reference-preserved : goal.loop-reference-preserved
loop-reference-preserved c = record {
  of = c.in_ok-note.ensures.of;
  seen = seen-more c.loop-reference.self.seen.keys c.note.new.self.seen.keys c.args.references.now c.loop-reference.reference-index (record { id = []; index = 0 }) c.loop-reference-test.true
      c.in_ok-note.ensures.seen c.loop-reference.invariant.seen;
  count = counted-more c.loop-reference.self.seen.keys c.note.new.self.seen.keys c.loop-reference.reference-index _ c.in_ok-note.ensures.seen c.loop-reference.invariant.count;
}

pub returns-clause-seen : goal.returns-clause-seen
returns-clause-seen c = λ r.
    c.loop-reference.invariant.seen r ∙ ap (list_any (same_ref r)) (take_all c.loop-reference.reference-index c.args.references.now (omega arith))
