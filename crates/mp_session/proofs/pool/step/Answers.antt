use Rattle.mp_seqpool.specs.Inside.Command.{command_of}
use Rattle.mp_seqpool.proofs.Histories.{signed}
use Rattle.mp_signatures.specs.Scheme.{accepted_by}
use Rattle.mp_session.proofs.Lawful.{lawful_either}
use Rattle.mp_session.proofs.pool.step.Goals as goal

pub step-requires : goal.step-requires
step-requires c = signed (accepted_by c.args.signatures.now) c.args.pool.now.pool c.requires

pub returns-clause-lawful : goal.returns-clause-lawful
returns-clause-lawful c =
    lawful_either c.args.signatures.now c.step.result c.args.pool.now.pool c.step.new.self.pool (command_of c.args.command.now) c.step.ensures.next c.step.ensures.err
    c.requires
