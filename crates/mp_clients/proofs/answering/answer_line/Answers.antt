use Rattle.std.proofs.Common.{refl, subst}
use Rattle.std.specs.Prelude.{Err}
use Rattle.mp_names.specs.declared.fault.LineFault.{LineFault}
use Rattle.mp_names.specs.Fault.{Gives}
use Rattle.mp_serve.specs.Ask.{ask_of}
use Rattle.mp_serve.specs.Inside.Ask.{to_ask}
use Rattle.mp_clients.proofs.Hearing.{bad_line, asked_lines, no_answer}
use Rattle.mp_clients.proofs.answering.answer_line.Goals as goal

pub returns-in-Err-Bad-clause-ok : goal.returns-in-Err-Bad-clause-ok
returns-in-Err-Bad-clause-ok g c = bad_line g.N.PoolName.accepts g.N.PoolName.callers c.args.conversation.now c.args.line.now _ (subst (λ (f : LineFault). Gives to_ask (ask_of c.args.conversation.now.names c.args.conversation.now.most_names c.args.line.now) (Err f)) c.in-Err-Bad.field-0-is c.in-Err-Bad.ensures) c.answer_bad.ensures

pub returns-in-Err-NoMemory-clause-ok : goal.returns-in-Err-NoMemory-clause-ok
returns-in-Err-NoMemory-clause-ok g c = no_answer g.N.PoolName.accepts g.N.PoolName.callers c.args.conversation.now c.args.line.now _ refl

pub returns-in-Ok-clause-ok : goal.returns-in-Ok-clause-ok
returns-in-Ok-clause-ok g c = asked_lines g.N.PoolName.accepts g.N.PoolName.callers c.args.conversation.now c.args.line.now _ c.answer_ask.new.conversation c.in-Ok.ensures c.answer_ask.result c.answer_ask.ensures.ok
