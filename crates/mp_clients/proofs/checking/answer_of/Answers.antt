use Rattle.std.proofs.Common.{ap, ◌+◌}
use Rattle.mp_clients.proofs.Checks.{refused_there, accepted_there, broken_there}
use Rattle.mp_clients.proofs.checking.answer_of.Goals as goal

pub returns-in-Some : goal.returns-in-Some
returns-in-Some g c = refused_there (g.V.Verifier.accepts c.args.verifier.now) c.args.version.now.pool c.args.tx.now c.in-Some.refusal c.in-Some.ensures.refusal

pub returns-in-Ok : goal.returns-in-Ok
returns-in-Ok g c =
    accepted_there (g.V.Verifier.accepts c.args.verifier.now) c.args.version.now.pool c.args.tx.now c.in_ok-overlay.overlay c.in_ok-overlay.ensures c.tick_of.result _
    c.in_default.ensures.refusal c.tick_of.ensures c.in-Ok.ensures.clear (ap (λ n. n + 1) c.last_ticket-ticket.ensures)

pub returns : goal.returns
returns g c =
    broken_there (g.V.Verifier.accepts c.args.verifier.now) c.args.version.now.pool c.args.tx.now c.in_ok-overlay.overlay c.in_ok-overlay.ensures c.tick_of.result c.in-Err.fault
    c.in_default.ensures.refusal c.tick_of.ensures c.in_default-fault.not-NoMemory c.in-Err.ensures.fault
