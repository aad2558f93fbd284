use Rattle.std.proofs.Common.{◌∙◌, subst, arith}
use Rattle.std.proofs.lemmas.List.{take_all}
use Rattle.mp_seqpool.specs.Inside.IdSet.{AreNamed}
use Rattle.mp_seqpool.proofs.Naming.{named_more}
use Rattle.mp_seqpool.proofs.id_set.id_set_of.Goals as goal

pub loop-id-preserved : goal.loop-id-preserved
loop-id-preserved c = record {
  named = named_more c.args.ids.now c.loop-id.id-index _ c.loop-id.names.entries c.note.new.names.entries c.loop-id-test.true c.loop-id.invariant.named c.in_ok-note.ensures.notes;
  salt = c.in_ok-note.ensures.salt ∙ c.loop-id.invariant.salt;
}

pub returns-clause-named : goal.returns-clause-named
returns-clause-named c = subst (λ ids. AreNamed ids c.loop-id.names.entries) (take_all c.loop-id.id-index c.args.ids.now (omega arith)) c.loop-id.invariant.named
