use Rattle.mp_serve.specs.declared.answer.Answer.{Answer}
use Rattle.mp_serve.specs.Inside.Ask.{to_ask}
use Rattle.mp_clients.proofs.Steps.{looked_only}
use Rattle.mp_clients.proofs.Heard.{heard_alone, heard_bad_at, is_bad}
use Rattle.mp_clients.proofs.conversation.Conversation.look_and_tell.Goals as goal

pub returns-in-Ok-clause-ok : goal.returns-in-Ok-clause-ok
returns-in-Ok-clause-ok g c =
    heard_alone g.N.PoolName.accepts g.N.PoolName.callers c.args.self.now c.look.new.self c.look.ensures (to_ask c.args.ask) _ c.tell.new.self c.requires c.in-Ok.ensures.ok

pub returns-in-Err-NoMemory-clause-err : goal.returns-in-Err-NoMemory-clause-err
returns-in-Err-NoMemory-clause-err g c = looked_only g.N.PoolName.accepts g.N.PoolName.callers c.args.self.now c.look.new.self c.tell.new.self c.look.ensures c.in-Err-NoMemory.ensures.err

pub returns-in-Err-Bad-clause-ok : goal.returns-in-Err-Bad-clause-ok
returns-in-Err-Bad-clause-ok g c =
    heard_bad_at g.N.PoolName.accepts g.N.PoolName.callers c.args.self.now c.look.new.self c.look.ensures (to_ask c.args.ask) _ c.tell.new.self (c.in-Err-Bad.ensures.bad (is_bad Answer _ _ c.in-Err-Bad.field-0-is)) c.in-Err-Bad.ensures.err c.answer_bad.ensures
