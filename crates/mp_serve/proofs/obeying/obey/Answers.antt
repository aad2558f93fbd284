use Rattle.mp_seqpool.specs.Inside.Command.{command_of}
use Rattle.mp_signatures.specs.Scheme.{accepted_by}
use Rattle.mp_serve.proofs.Pools.{served_either, same_either, ledger-kept}
use Rattle.mp_serve.proofs.obeying.obey.Goals as goal

pub returns-clause-ready : goal.returns-clause-ready
returns-clause-ready c =
    served_either (accepted_by c.args.signatures.now) c.carry_out.result c.args.pool.now.pool c.carry_out.new.pool.pool (command_of c.args.command.now) c.carry_out.ensures.pool
    c.carry_out.ensures.err c.requires

pub returns-clause-ledger : goal.returns-clause-ledger
returns-clause-ledger c keeps =
    same_either (accepted_by c.args.signatures.now) c.carry_out.result c.args.pool.now.pool c.carry_out.new.pool.pool (command_of c.args.command.now)
    (ledger-kept (accepted_by c.args.signatures.now) c.args.pool.now.pool (command_of c.args.command.now) keeps) c.carry_out.ensures.pool c.carry_out.ensures.err
