use Rattle.std.proofs.Common.{◌≡◌, rules}
use Rattle.std.specs.Prelude.{None, Some}
use Rattle.mp_serve.specs.ServedPool.{state_back}
use Rattle.mp_clients.proofs.Steps.{returned, none_back}
use Rattle.mp_clients.proofs.conversation.Conversation.return_by.Goals as goal

pub returns-in-Ok-Some : goal.returns-in-Ok-Some
returns-in-Ok-Some g c =
    let s = c.args.self.now in
    let found = state_back s.client.former s.client.ledger c.args.count in
    let is : found ≡ Some c.in-Ok-Some.ledger = search rules in
    let both = returned g.N.PoolName.accepts g.N.PoolName.callers s c.args.count found c.in-Ok-Some.ledger c.go_back.result c.go_back.new.self is c.go_back.ensures.ok c.go_back.ensures.err in
    record { ok = both.0; err = both.1 }

pub returns-in-Ok-None-clause-ok : goal.returns-in-Ok-None-clause-ok
returns-in-Ok-None-clause-ok g c =
    let s = c.args.self.now in
    let found = state_back s.client.former s.client.ledger c.args.count in
    let is : found ≡ None = search rules in
    none_back g.N.PoolName.accepts g.N.PoolName.callers s c.args.count found c.refuse_back.result c.refuse_back.new.self is c.refuse_back.ensures.ok
