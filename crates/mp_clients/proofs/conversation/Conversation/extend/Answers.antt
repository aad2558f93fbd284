use Rattle.std.proofs.Common.{◌≡◌, refl, rules}
use Rattle.mp_serve.specs.Ask.{Extends}
use Rattle.mp_serve.specs.Inside.Ask.{to_block}
use Rattle.mp_serve.specs.Request.{ResolvedBlock}
use Rattle.mp_clients.specs.Answers.{used_by}
use Rattle.mp_clients.proofs.Steps.{looked_only}
use Rattle.mp_clients.proofs.Heard.{extended_there, heard_bad, is_bad}
use Rattle.mp_clients.proofs.conversation.Conversation.extend.Goals as goal

pub returns-in-Ok : goal.returns-in-Ok
returns-in-Ok g c =
    let used : c.used_by-used.result ≡ used_by (to_block c.args.block).txs = search rules in
    let both = extended_there g.N.PoolName.accepts g.N.PoolName.callers c.args.self.now c.look.new.self c.look.ensures (to_block c.args.block) c.in-Ok.block c.used_by-used.result c.adopt_block.result c.adopt_block.new.self
    used c.in-Ok.ensures.ok c.adopt_block.ensures.ok c.adopt_block.ensures.err in
    record { ok = both.0; err = both.1 }

pub returns-in-Err-NoMemory-clause-err : goal.returns-in-Err-NoMemory-clause-err
returns-in-Err-NoMemory-clause-err g c = looked_only g.N.PoolName.accepts g.N.PoolName.callers c.args.self.now c.look.new.self _ c.look.ensures refl

pub returns-clause-ok : goal.returns-clause-ok
returns-clause-ok g c =
    heard_bad g.N.PoolName.accepts g.N.PoolName.callers c.args.self.now c.look.new.self c.look.ensures (Extends (to_block c.args.block)) _ _ (c.in-Err-Bad.ensures.bad (is_bad ResolvedBlock _ _ c.in-Err-Bad.field-0-is)) refl c.answer_bad.ensures
