use Rattle.std.specs.Arc.{arc_value}
use Rattle.mp_seqpool.specs.Command.{Submit}
use Rattle.mp_signatures.specs.Scheme.{accepted_by}
use Rattle.mp_serve.proofs.Pools.{served_either, same_either, ledger-submitted}
use Rattle.mp_serve.proofs.obeying.give.Goals as goal

pub returns-clause-ready : goal.returns-clause-ready
returns-clause-ready c =
    served_either (accepted_by c.args.signatures.now) c.take_given.result c.args.pool.now.pool c.take_given.new.pool.pool (Submit (arc_value c.args.tx.now)) c.take_given.ensures.pool
    c.take_given.ensures.err c.requires

pub returns-clause-ledger : goal.returns-clause-ledger
returns-clause-ledger c =
    same_either (accepted_by c.args.signatures.now) c.take_given.result c.args.pool.now.pool c.take_given.new.pool.pool (Submit (arc_value c.args.tx.now))
    (ledger-submitted (accepted_by c.args.signatures.now) c.args.pool.now.pool (arc_value c.args.tx.now)) c.take_given.ensures.pool c.take_given.ensures.err
