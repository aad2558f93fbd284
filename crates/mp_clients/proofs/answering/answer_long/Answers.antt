use Rattle.mp_clients.proofs.Hearing.{too_long}
use Rattle.mp_clients.proofs.answering.answer_long.Goals as goal

pub returns : goal.returns
returns g c = λ line lt. too_long g.N.PoolName.accepts g.N.PoolName.callers c.args.conversation.now line _ lt c.answer_bad.ensures
