use Rattle.std.proofs.Common.{◌≤◌, sym, subst}
use Rattle.mp_tickets.specs.Tickets.{IsRising}
use Rattle.mp_versions.proofs.Counting.{counted}
use Rattle.mp_versions.proofs.version.Version.of.Goals as goal

pub invariant_of-result : goal.invariant_of-result
invariant_of-result c =
    let p = c.args.pool.now.pool in
    counted _ p.items c.in_ok-of_pool.ensures.items c.in_ok-of_pool.ensures.laid (subst IsRising c.in_ok-of_pool.ensures.items c.in_ok-of_pool.ensures.rising) c.last_ticket.ensures.given c.len.ensures c.bytes.ensures.bytes c.bytes.ensures.most
    (subst (λ n. c.changes.result ≤ n) (sym c.config.ensures.limit) c.changes.ensures.most)
