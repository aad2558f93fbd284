use Rattle.std.proofs.Common.{◌≡◌, rules}
use Rattle.std.specs.Prelude.{Ok}
use Rattle.mp_rules.specs.Block.{apply_block}
use Rattle.mp_clients.proofs.Steps.{extended}
use Rattle.mp_clients.proofs.conversation.Conversation.adopt_block.Goals as goal

pub returns-in-Ok-To : goal.returns-in-Ok-To
returns-in-Ok-To g c =
    let s = c.args.self.now in
    let b = c.args.block.now in
    let found = apply_block g.N.PoolName.accepts s.client.ledger b.tick b.block_bytes b.txs in
    let is : found ≡ Ok c.in-Ok-To.applied.ledger = search rules in
    let both = extended g.N.PoolName.accepts g.N.PoolName.callers s c.args.used b.txs found c.in-Ok-To.applied.ledger c.go_on.result c.go_on.new.self is c.go_on.ensures.ok c.go_on.ensures.err in
    record { ok = both.0; err = both.1 }
