use Rattle.mp_serve.specs.Inside.Answer.{text_of}
use Rattle.mp_clients.specs.Answers.{IsTurn, IsBroken}
use Rattle.mp_clients.proofs.Progress.{cut_first}
use Rattle.mp_clients.proofs.Ending.{broken_first}
use Rattle.mp_clients.proofs.conversing.answer_first.Goals as goal

pub returns-in-Err-clause-answers : goal.returns-in-Err-clause-answers
returns-in-Err-clause-answers g c = λ rest.
    broken_first g.N.PoolName.accepts g.N.PoolName.callers c.args.conversation.now c.answer_line.new.conversation c.args.line.now rest (g.D.Device.output c.args.device.now) c.in-Err.fault c.in-Err.ensures.err

pub returns-in-Ok-tell-clause-answers : goal.returns-in-Ok-tell-clause-answers
returns-in-Ok-tell-clause-answers g c = λ rest. (text_of c.in-Ok.answer, (c.answer_line.new.conversation, c.in-Ok.ensures.ok, c.count_line.ensures), c.in-Ok-tell.ensures.ok)

pub returns-clause-answers : goal.returns-clause-answers
returns-clause-answers g c = λ rest.
    cut_first (IsTurn g.N.PoolName.accepts g.N.PoolName.callers) (IsBroken g.N.PoolName.accepts g.N.PoolName.callers) c.args.conversation.now c.count_line.new.self c.args.line.now (text_of c.in-Ok.answer) rest
    (g.D.Device.output c.args.device.now) (g.D.Device.output c.tell.new.device) (c.answer_line.new.conversation, c.in-Ok.ensures.ok, c.count_line.ensures) c.in-Err-tell.ensures.err
